-- The laws of specs/Widened.antt.
use Prim.Native.Nat.{ℕ}
use mathlib.Core.Path.{◌≡◌, refl, sym, ap, ◌∙◌, subst}
use mathlib.Core.Logic.{◌⊎◌, inl, inr}
use mathlib.Core.List.{List, [], ◌∷◌}
use native.Mathlib.Omega.{arith}
use Rattle.macros.specs.Bounds.{most_entry_bytes, old_entry_bytes}
use Rattle.macros.specs.Refusals.{FileRefusal}
use Rattle.macros.specs.Refusals.FileRefusal.{bad_call}
use Rattle.macros.specs.Macro.{Macro, Table}
use Rattle.macros.specs.Read.{read_onto_by, read_file_by}
use Rattle.macros.specs.ReadFile.Read.{refused_at, table}
use Rattle.macros.specs.Accepted.{SpelledBy, Each}
use Rattle.macros.proofs.ReadBounds.{smaller_bound}
use Rattle.lines.specs.State.{State}
use Rattle.lines.specs.Line.{Sent}
use Rattle.lines.specs.Feeding.{Answer, feed, feeds}
use Rattle.lines.proofs.Demand3.{lines}
use Rattle.m_widths.specs.Widths.{IsOld, widened, Short}
use Rattle.m_widths.specs.Widened.{Unbound, widened_answer, widened_all, LineWidened, ListWidened, OldHolds, StaysOld, OldTaken}
use Rattle.m_widths.proofs.Answers.{Answers, of_feeds}

-- one line, and the state that it leaves
one_line : (ms : Table) (st : State) (sent : Sent) → IsOld st → Unbound (feed ms st sent)
    → (feed ms (widened st) sent ≡ widened_answer (feed ms st sent)) × IsOld (feed ms st sent).state × (Short st → Short (feed ms st sent).state)
unfolding widened_answer
one_line ms st sent h u = by (of_feeds old_entry_bytes most_entry_bytes (omega arith) (Short st) ms st (h, λ q. q) sent)
  where
    by : Answers old_entry_bytes most_entry_bytes (omega arith) (Short st) (feed ms st sent) (feed ms (widened st) sent)
        → (feed ms (widened st) sent ≡ widened_answer (feed ms st sent)) × IsOld (feed ms st sent).state × (Short st → Short (feed ms st sent).state)
    by (inl (inl e)) = absurd (u.0 e)
    by (inl (inr e)) = absurd (u.1 e)
    by (inr g) = (g.0, g.1.0, g.1.1)

-- THE LAW, of one line
pub line_widened : LineWidened
line_widened ms st sent h u = let g = one_line ms st sent h u in (g.0, g.1)

-- THE LAW, of a list
pub list_widened : ListWidened
unfolding feeds widened_all widened_answer
list_widened ms st [] h u = refl
list_widened ms st (x ∷ xs) h u =
    let g = one_line ms st x h u.0 in
    let a : Answer = feed ms st x in
    ap (λ (b : Answer). b ∷ feeds b.table b.state xs) g.0 ∙ ap (λ (l : List Answer). widened_answer a ∷ l) (list_widened a.table a.state xs g.1 u.1)

-- THE LAW, of the states that are left
pub stays_old : StaysOld
unfolding feeds
stays_old ms st [] h s u = tt
stays_old ms st (x ∷ xs) h s u =
    let g = one_line ms st x h u.0 in
    let a : Answer = feed ms st x in
    ((g.1, g.2 s), stays_old a.table a.state xs g.1 (g.2 s) u.1)

-- THE LAW, demand 3
pub old_holds : OldHolds
old_holds ms st xs h = lines ms st xs

-- TABLES

not_table : {A : Type 0} {k : FileRefusal} {p : ℕ} {ms : Table} → refused_at k p ≡ table ms → A
not_table e = let z : ◌≡◌ {A = ℕ} 0 1 = cc in absurd (omega arith)

spelled_too : (m : Macro) → SpelledBy old_entry_bytes m → SpelledBy most_entry_bytes m
unfolding read_file_by
spelled_too m h = by (smaller_bound old_entry_bytes most_entry_bytes (omega arith) [] h.0)
  where
    by : (read_onto_by old_entry_bytes [] h.0 ≡ read_onto_by most_entry_bytes [] h.0) ⊎ ((p : ℕ) × (read_onto_by old_entry_bytes [] h.0 ≡ refused_at bad_call p))
        → SpelledBy most_entry_bytes m
    by (inl e) = (h.0, h.1, sym e ∙ h.2)
    by (inr e) = not_table (sym e.1 ∙ h.2)

each_too : (ms : Table) → Each (SpelledBy old_entry_bytes) ms → Each (SpelledBy most_entry_bytes) ms
each_too [] h = tt
each_too (m ∷ ms) h = (spelled_too m h.0, each_too ms h.1)

-- THE LAW, of tables
pub old_taken : OldTaken
old_taken ms h = record { count = h.count; macros = each_too ms h.macros }

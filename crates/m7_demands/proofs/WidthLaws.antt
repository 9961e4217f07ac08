-- 02, N6, FOR THE ENGINE: the contracts of m7_widen, m7_narrow and m7_feed joined to the laws of crates/m_widths and crates/form_old.
use Prim.Native.Nat.{ℕ}
use mathlib.Core.Path.{◌≡◌, refl, sym, ap, subst, ◌∙◌}
use mathlib.Core.Bool.{Bool, true, false, ◌&&◌}
use mathlib.Core.List.{List, [], ◌∷◌}
use native.Mathlib.Omega.{arith}
use borrow.Author.Tests.{eqb-true, eq-eqb}
use lib.Dec.{eqb}
use lib.ListN.{length}
use Rattle.macros.specs.Bounds.{most_entry_bytes, old_entry_bytes}
use Rattle.macros.specs.Formed.{Octets}
use Rattle.macros.specs.Macro.{Table}
use Rattle.macros.specs.Refusals.{number, place, host_number}
use Rattle.macros.specs.Refusals.Refusal.{of_host}
use Rattle.macros.specs.Refusals.HostRefusal.{bad_memory, bad_state}
use Rattle.macros.proofs.Tests.{and_left, and_right}
use Rattle.form_table.proofs.Basics.{clash, and_both}
use Rattle.lines.specs.State.{State}
use Rattle.lines.specs.Feeding.{feed, feeds}
use Rattle.lines.specs.Feeding.{Answer as Answered}
use Rattle.m_widths.specs.Widths.{widened, narrowed, Short}
use Rattle.m_widths.specs.Widened.{widened_all}
use Rattle.m_widths.proofs.Laws.{list_widened, old_taken}
use Rattle.form_state.specs.Form.{state_bytes, state_form, state_form_by}
use Rattle.form_state.specs.Check.{state_checks}
use Rattle.form_state.specs.Access.{Holds}
use Rattle.form_state.proofs.Parts.{size}
use Rattle.form_state.proofs.Decode.{state_check_exact}
use Rattle.form_old.specs.Refusal.{width_number}
use Rattle.form_old.specs.Old.{old_state_bytes, HoldsOld, widened_bytes, short_entries}
use Rattle.form_old.proofs.OldLaws.{bound_free, old_size, old_exact, short_exact, holds_old}
use Rattle.line_memory.specs.Memory.{IsTable}
use Rattle.line_answer.specs.declared.Answer.{Answer}
use Rattle.line_answer.specs.Replies.{reply}
use Rattle.m7.specs.Contract.{Result, Gives, refuses, takes}
use Rattle.m7.specs.Feeding.{Call, Returns}
use Rattle.m7.specs.Widening.{sized_states, refuses_long, Widens, Narrows}
use Rattle.m7_demands.specs.Demand3.{InTurn, AllReturn}
use Rattle.m7_demands.specs.Widths.{sent_by, AllSized, OldAndNew, ThereAndBack, BackAndThere, OneWidened, OneNarrowed}

-- SIZES

sized : (old state : List ℕ) → length old ≡ old_state_bytes → length state ≡ state_bytes → sized_states old state ≡ true
unfolding sized_states
sized old state g h = and_both (eq-eqb _ _ g) (eq-eqb _ _ h)

old_sized : (old state : List ℕ) → sized_states old state ≡ true → length old ≡ old_state_bytes
unfolding sized_states
old_sized old state y = eqb-true _ _ (and_left (eqb (length old) old_state_bytes) (eqb (length state) state_bytes) y)

-- WHAT THE LENT BYTES TELL

-- of m7_widen: a refusal, or the old state
data ToWiden (old state : List ℕ) : Type 0 where
  refused : (w : Result) → (w.answer.number ≡ 0 → ⊥) → ((r : Answer) (b : List ℕ) → Widens old state r b → Gives w r b) → ToWiden old state
  taken : sized_states old state ≡ true → (st : State) → HoldsOld old st → ToWiden old state

-- of m7_narrow: a refusal, or the state without an entry over 50 bytes
data ToNarrow (state old : List ℕ) : Type 0 where
  refused : (w : Result) → (w.answer.number ≡ 0 → ⊥) → ((r : Answer) (b : List ℕ) → Narrows state old r b → Gives w r b) → ToNarrow state old
  taken : sized_states old state ≡ true → (st : State) → Holds state st → Short st → ToNarrow state old

to_widen : (old state : List ℕ) → Octets old → ToWiden old state
unfolding refuses number host_number reply
to_widen old state o = by_size (sized_states old state) refl
  where
    by_check : (d : Bool) → state_checks (widened_bytes old) ≡ d → sized_states old state ≡ true → ToWiden old state
    by_check false e y =
        let no : (st : State) → HoldsOld old st → ⊥ = λ st h. clash ((old_exact old o (old_sized old state y)).1 (st, h)) e in
        refused (refuses (of_host bad_state) state) (λ z. omega arith) (λ r b k. k.no_state y no)
    by_check true e y = let s = (old_exact old o (old_sized old state y)).0 e in taken y s.0 s.1

    by_size : (d : Bool) → sized_states old state ≡ d → ToWiden old state
    by_size false e = refused (refuses (of_host bad_memory) state) (λ z. omega arith) (λ r b k. k.other_size e)
    by_size true e = by_check (state_checks (widened_bytes old)) refl e

to_narrow : (state old : List ℕ) → Octets state → ToNarrow state old
unfolding refuses refuses_long number host_number width_number reply
to_narrow state old o = by_size (sized_states old state) refl
  where
    by_entries : (d : Bool) → short_entries state ≡ d → sized_states old state ≡ true → (st : State) → Holds state st → ToNarrow state old
    by_entries false e y st h =
        refused (refuses_long old) (λ z. omega arith) (λ r b k. k.too_long y st h (λ s. clash ((short_exact state st h).1 s) e))
    by_entries true e y st h = taken y st h ((short_exact state st h).0 e)

    by_check : (d : Bool) → state_checks state ≡ d → sized_states old state ≡ true → ToNarrow state old
    by_check false e y =
        let no : (st : State) → Holds state st → ⊥ = λ st h. clash ((state_check_exact state o).1 (st, h.in_range, h.form)) e in
        refused (refuses (of_host bad_state) old) (λ z. omega arith) (λ r b k. k.no_state y no)
    by_check true e y =
        let s = (state_check_exact state o).0 e in by_entries (short_entries state) refl y s.0 (record { in_range = s.1; form = s.2 })

    by_size : (d : Bool) → sized_states old state ≡ d → ToNarrow state old
    by_size false e = refused (refuses (of_host bad_memory) old) (λ z. omega arith) (λ r b k. k.other_size e)
    by_size true e = by_check (state_checks state) refl e

-- ONE RESULT

pub one_widened : OneWidened
one_widened old state o = by (to_widen old state o)
  where
    by : ToWiden old state → (w : Result) × ((r : Answer) (b : List ℕ) → Widens old state r b → Gives w r b)
    by (refused w n f) = (w, f)
    by (taken y st h) = (takes 0 (state_form (widened st)), λ r b k. k.made y st h)

pub one_narrowed : OneNarrowed
one_narrowed state old o = by (to_narrow state old o)
  where
    by : ToNarrow state old → (w : Result) × ((r : Answer) (b : List ℕ) → Narrows state old r b → Gives w r b)
    by (refused w n f) = (w, f)
    by (taken y st h s) = (takes 0 (state_form_by old_entry_bytes st), λ r b k. k.made y st h s)

-- THERE AND BACK

-- a call that is taken has number 0
zero : (m : List ℕ) {r : Answer} {b : List ℕ} → Gives (takes 0 m) r b → r.number ≡ 0
unfolding takes reply
zero m g = ap (λ (x : Answer). x.number) g.answers

-- and holds what it says
holds : {m : List ℕ} {r : Answer} {b : List ℕ} → Gives (takes 0 m) r b → b ≡ m
unfolding takes
holds g = g.holds

-- one that has number 0 is not refused
not_refused : {A : Type 0} (w : Result) {r : Answer} {b : List ℕ} → (w.answer.number ≡ 0 → ⊥) → Gives w r b → r.number ≡ 0 → A
not_refused w n g z = absurd (n (sym (ap (λ (x : Answer). x.number) g.answers) ∙ z))

-- what m7_widen wrote is the state with the new bound
wrote_wide : (old state b : List ℕ) (r : Answer) (st : State) → sized_states old state ≡ true → HoldsOld old st → Widens old state r b → Holds b (widened st)
wrote_wide old state b r st y h k = record { in_range = h.in_range; form = sym (holds (k.made y st h)) }

wide_long : (b : List ℕ) (st : State) → Holds b st → length b ≡ state_bytes
wide_long b st h = ap length (sym h.form) ∙ size st h.in_range

pub there_and_back : ThereAndBack
there_and_back old state b memory c r q o k z l j = by (to_widen old state o)
  where
    by : ToWiden old state → (q.number ≡ 0) × (c ≡ old)
    by (refused w n f) = not_refused w n (f r b k) z
    by (taken y st h) =
        let w : Holds b (widened st) = wrote_wide old state b r st y h k in
        let g : Gives (takes 0 (state_form_by old_entry_bytes (widened st))) q c = j.made (sized memory b l (wide_long b (widened st) w)) (widened st) w h.short in
        (zero _ g, holds g ∙ sym (bound_free old_entry_bytes most_entry_bytes st) ∙ h.form)

pub back_and_there : BackAndThere
back_and_there state old b memory c r q o k z l j = by (to_narrow state old o)
  where
    by : ToNarrow state old → (q.number ≡ 0) × (c ≡ state)
    by (refused w n f) = not_refused w n (f r b k) z
    by (taken y st h s) =
        let v : HoldsOld b (narrowed st) = holds_old b st h.in_range s (sym (holds (k.made y st h s))) in
        let g : Gives (takes 0 (state_form (widened (narrowed st)))) q c = j.made (sized b memory (old_size b (narrowed st) v) l) (narrowed st) v in
        (zero _ g, holds g ∙ sym (bound_free most_entry_bytes most_entry_bytes st) ∙ h.form)

-- THE OLD ENGINE AND THE NEW ONE

-- calls in turn, none with a memory of another size, return what feeding the lines gives
all_fed : (ms : Table) (st : State) (t b : List ℕ) (cs : List Call) → IsTable t ms → Holds b st → InTurn t b cs → AllSized cs → AllReturn cs (feeds ms st (sent_by cs))
unfolding feeds
all_fed ms st t b [] f h k y = tt
all_fed ms st t b (c ∷ cs) f h k y =
    let r = k.2.fed y.0 ms (rw k.0 f) st (rw k.1 h) in
    (r, all_fed (feed ms st c.feeding.sent).table (feed ms st c.feeding.sent).state c.feeding.left.table c.feeding.left.state cs r.table_holds r.state_holds k.3 y.1)

pub old_and_new : OldAndNew
old_and_new t old state b r ms st cs h =
    let y : sized_states old state ≡ true = sized old state (old_size old st h.saved) h.size in
    let w : Holds b (widened st) = wrote_wide old state b r st y h.saved h.widens in
    let f : IsTable t ms = record { accepted = old_taken ms h.table; form = h.formed } in
    let a : AllReturn cs (feeds ms (widened st) (sent_by cs)) = all_fed ms (widened st) t b cs f w h.calls h.sized in
    (zero _ (h.widens.made y st h.saved), subst (AllReturn cs) (list_widened ms st (sent_by cs) h.saved.old h.unbound) a)

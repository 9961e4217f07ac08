-- 02, N6: THE OLD ENGINE AND THE NEW ONE, in one definition, `feeds` of crates/lines. The old engine is `feeds` from a state whose entries
-- may have 50 bytes: there a longer tag is 33, and `$MACRO` reads texts of at most 50 bytes. From the same state widened, `feeds` is the
-- new engine. The laws rule out, among others, the edits only_16 (33 does not matter), only_33 (16 does not matter) and flags_lost (a
-- widened state has TRACE 0).
use Rattle.std.specs.Prelude.{◌≡◌, List, [], ◌∷◌}
use Rattle.macros.specs.Bounds.{old_entry_bytes}
use Rattle.macros.specs.Macro.{Table}
use Rattle.macros.specs.Accepted.{AcceptedBy, Accepted}
use Rattle.lines.specs.State.{State, AllOf}
use Rattle.lines.specs.Line.{Sent}
use Rattle.lines.specs.Feeding.{Answer, number_of, feed, feeds}
use Rattle.lines.specs.Demand.{Lines}
use Rattle.m_widths.specs.Widths.{IsOld, widened, Short}

-- "the old one meets no 33 and no 16": the answer has another number, whatever it is; 02 asks no more of a line
abbrev pub Unbound : Answer → Type 0
Unbound a = (number_of a.kind ≡ 33 → ⊥) × (number_of a.kind ≡ 16 → ⊥)

-- the same answer, with its kind, number, place, output, passes, table and trace; and its state widened
unfoldable pub widened_answer : Answer → Answer
widened_answer a =
    record { kind = a.kind; passes = a.passes; table = a.table; state = widened a.state; trace_text = a.trace_text }

-- each answer of a list
unfoldable pub widened_all : List Answer → List Answer
widened_all [] = []
widened_all (a ∷ as₁) = widened_answer a ∷ widened_all as₁

-- THE LAW, of one line: the new engine answers alike, and the state that the old one leaves is again one of the old engine
abbrev pub LineWidened : Type 0
LineWidened =
    (ms : Table) (st : State) (sent : Sent) → IsOld st → Unbound (feed ms st sent)
    → (feed ms (widened st) sent ≡ widened_answer (feed ms st sent)) × IsOld (feed ms st sent).state

-- THE LAW: "answers alike, under the same table .. and the same budgets, every list of lines in which the old one meets no 33 and no 16"
abbrev pub ListWidened : Type 0
ListWidened =
    (ms : Table) (st : State) (xs : List Sent) → IsOld st → AllOf Unbound (feeds ms st xs)
    → feeds ms (widened st) xs ≡ widened_all (feeds ms st xs)

-- THE LAW: demand 3 holds of the old engine too, with its 50 bytes: it meets 33 and 16 where 01's rules give them, and nowhere else
abbrev pub OldHolds : Type 0
OldHolds = (ms : Table) (st : State) (xs : List Sent) → IsOld st → Lines ms st xs (feeds ms st xs)

-- THE LAW: each state that the old engine leaves then is one of the old engine again, without an entry over 50 bytes
abbrev pub StaysOld : Type 0
StaysOld =
    (ms : Table) (st : State) (xs : List Sent) → IsOld st → Short st → AllOf Unbound (feeds ms st xs)
    → AllOf (λ (a : Answer). IsOld a.state × Short a.state) (feeds ms st xs)

-- THE LAW: a table "that the old engine takes", the new one takes
abbrev pub OldTaken : Type 0
OldTaken = (ms : Table) → AcceptedBy old_entry_bytes ms → Accepted ms

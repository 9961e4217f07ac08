-- 02, N6, FOR THE ENGINE: calls of m7_feed in turn from what m7_widen wrote answer as the old engine does; and states there and back.
-- It rules out, among others, the edits any_lines (33 and 16 do not matter), old_states (the states are left as the old engine leaves
-- them), back_to_memory (what comes back is what stood in the memory) and widen_refuses (m7_widen refuses the state).
use Rattle.std.specs.Prelude.{ℕ, ◌≡◌, true, List, [], ◌∷◌, length}
use Rattle.macros.specs.Bounds.{old_entry_bytes}
use Rattle.macros.specs.Formed.{Octets}
use Rattle.macros.specs.Macro.{Table}
use Rattle.macros.specs.Accepted.{AcceptedBy}
use Rattle.form_table.specs.Form.{form}
use Rattle.lines.specs.State.{State, AllOf}
use Rattle.lines.specs.Line.{Sent}
use Rattle.lines.specs.Feeding.{feeds}
use Rattle.m_widths.specs.Widened.{Unbound, widened_all}
use Rattle.form_state.specs.Form.{state_bytes}
use Rattle.form_old.specs.Old.{old_state_bytes, HoldsOld}
use Rattle.line_answer.specs.declared.Answer.{Answer}
use Rattle.m7.specs.Contract.{Result, Gives}
use Rattle.m7.specs.Feeding.{Call, sized_to_feed}
use Rattle.m7.specs.Widening.{Widens, Narrows}
use Rattle.m7_demands.specs.Demand3.{InTurn, AllReturn}

-- the lines of the calls, each with its budget
abbrev pub sent_by : List Call → List Sent
sent_by [] = []
sent_by (c ∷ cs) = c.feeding.sent ∷ sent_by cs

-- every call is lent memories of the sizes that the docs state
abbrev pub AllSized : List Call → Type 0
AllSized [] = Unit {0}
AllSized (c ∷ cs) = (sized_to_feed c.feeding.lent ≡ true) × AllSized cs

-- a choir's state saved with the old size: m7_widen is lent its bytes `old` and the memory `state`, in which it writes the bytes b with the
-- answer r; then m7_feed is called in turn, from the table's bytes t and from b. These are all conditions of 02
pub record Turned (t old state b : List ℕ) (r : Answer) (ms : Table) (st : State) (cs : List Call) : Type 0 where
  -- "the same table, one that the old engine takes"
  pub table : AcceptedBy old_entry_bytes ms
  pub formed : form ms ≡ t
  -- the saved state
  pub saved : HoldsOld old st
  pub size : length state ≡ state_bytes
  pub widens : Widens old state r b
  pub calls : InTurn t b cs
  pub sized : AllSized cs
  -- "every list of lines in which the old one meets no 33 and no 16"
  pub unbound : AllOf Unbound (feeds ms st (sent_by cs))

-- THE LAW: "One operation turns an old state into a new one that answers alike": m7_widen takes the state, and each call returns what the
-- old engine answers from the saved state: number, place, passes, kind, length, output and trace; the table, and the state widened
abbrev pub OldAndNew : Type 0
OldAndNew =
    (t old state b : List ℕ) (r : Answer) (ms : Table) (st : State) (cs : List Call) → Turned t old state b r ms st cs
    → (r.number ≡ 0) × AllReturn cs (widened_all (feeds ms st (sent_by cs)))

-- THE LAW: "Old to new to old gives the same bytes."
abbrev pub ThereAndBack : Type 0
ThereAndBack =
    (old state b memory c : List ℕ) (r q : Answer) → Octets old → Widens old state r b → r.number ≡ 0
    → length memory ≡ old_state_bytes → Narrows b memory q c → (q.number ≡ 0) × (c ≡ old)

-- THE LAW: so does new to old to new, where m7_narrow does not refuse
abbrev pub BackAndThere : Type 0
BackAndThere =
    (state old b memory c : List ℕ) (r q : Answer) → Octets state → Narrows state old r b → r.number ≡ 0
    → length memory ≡ state_bytes → Widens b memory q c → (q.number ≡ 0) × (c ≡ state)

-- Whatever bytes are lent, there is one result of m7_widen, and its contract allows no other answer and no other bytes.
abbrev pub OneWidened : Type 0
OneWidened = (old state : List ℕ) → Octets old → (w : Result) × ((r : Answer) (b : List ℕ) → Widens old state r b → Gives w r b)

-- the same of m7_narrow
abbrev pub OneNarrowed : Type 0
OneNarrowed = (state old : List ℕ) → Octets state → (w : Result) × ((r : Answer) (b : List ℕ) → Narrows state old r b → Gives w r b)

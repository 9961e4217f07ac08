-- DEMAND 3, FOR THE ENGINE: of every list of calls of m7_feed, through the bytes that they return.
-- It rules out, among others, the edits not_in_turn (each call is lent what the first was lent), taken_keeps (a line that is taken leaves
-- the memories as they were), sizes_ignored (a memory of another size does not matter) and other_state (work is resumed from the fresh
-- state, whatever state is lent); what LineHolds rules out stands in crates/lines.
use Rattle.std.specs.Prelude.{ℕ, ◌≡◌, Bool, true, false, List, [], ◌∷◌}
use Rattle.macros.specs.Macro.{Table}
use Rattle.lines.specs.State.{State, fresh}
use Rattle.macros.specs.Refusals.Refusal.{of_host}
use Rattle.macros.specs.Refusals.HostRefusal.{bad_memory}
use Rattle.lines.specs.Feeding.{refusal}
use Rattle.lines.specs.Feeding.{Answer as Answered}
use Rattle.lines.specs.Demand.{LineHolds}
use Rattle.form_state.specs.Form.{state_form}
use Rattle.form_state.specs.Access.{Holds}
use Rattle.line_memory.specs.Memory.{IsTable}
use Rattle.m7.specs.Feeding.{Call, Feeds, Returns, sized_to_feed}

-- calls in turn, nothing else writing the memories meanwhile: each is lent the table and the state that the last returned or left
abbrev pub InTurn : (table state : List ℕ) → List Call → Type 0
InTurn t b [] = Unit {0}
InTurn t b (c ∷ cs) =
    (c.feeding.lent.table ≡ t) × (c.feeding.lent.state ≡ b)
    × Feeds c × InTurn c.feeding.left.table c.feeding.left.state cs

-- what demand 3 says of a call's line and its answer a, by the definition LineHolds of crates/lines;
-- a call that is lent a memory of another size is refused with 3, and no line is fed
abbrev pub CallHolds : (sized : Bool) → Table → State → Call → Answered → Type 0
CallHolds true ms st c a = LineHolds ms st c.feeding.sent a
CallHolds false ms st c a = a ≡ refusal ms st 0 (of_host bad_memory)

-- of every call in turn, from the table and the state that the last answer left
abbrev pub AllHold : Table → State → List Call → List Answered → Type 0
AllHold ms st [] [] = Unit {0}
AllHold ms st (c ∷ cs) (a ∷ as₁) = CallHolds (sized_to_feed c.feeding.lent) ms st c a × AllHold a.table a.state cs as₁
AllHold ms st [] (a ∷ as₁) = ⊥
AllHold ms st (c ∷ cs) [] = ⊥

-- each call returns what its answer says
abbrev pub AllReturn : List Call → List Answered → Type 0
AllReturn [] [] = Unit {0}
AllReturn (c ∷ cs) (a ∷ as₁) = Returns c a × AllReturn cs as₁
AllReturn [] (a ∷ as₁) = ⊥
AllReturn (c ∷ cs) [] = ⊥

-- "a refused line leaves table, state and output as they were", byte for byte
abbrev pub Keeps : Call → Type 0
Keeps c = (c.answer.number ≡ 0 → ⊥) → c.feeding.left ≡ c.feeding.lent

abbrev pub AllKeep : List Call → Type 0
AllKeep [] = Unit {0}
AllKeep (c ∷ cs) = Keeps c × AllKeep cs

-- the answers of which demand 3 holds are those that the calls return
pub record Holds3 (ms : Table) (st : State) (cs : List Call) : Type 0 where
  pub answers : List Answered
  pub returned : AllReturn cs answers
  pub demand : AllHold ms st cs answers
  pub kept : AllKeep cs

-- RESUMED WORK: calls in turn from any accepted table and any state that 2 does not refuse, of which t and b are the bytes
abbrev pub Resumed : Type 0
Resumed = (t b : List ℕ) (ms : Table) (st : State) (cs : List Call) → IsTable t ms → Holds b st → InTurn t b cs → Holds3 ms st cs

-- "For every list of lines .. fed in turn from a fresh state and any accepted table, each with any budget": t is that table's bytes
abbrev pub Demand3 : Type 0
Demand3 = (t : List ℕ) (ms : Table) (cs : List Call) → IsTable t ms → InTurn t (state_form fresh) cs → Holds3 ms fresh cs

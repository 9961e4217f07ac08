-- 02, N1, FOR THE ENGINE: when 36 comes, and what the flag TRACE changes. What the trace's memory holds says the contract (trace_holds).
-- It rules out, among others, the edits alike_36 (the answers are alike also where 36 comes) and over_without_36 (it is 32 that comes then).
use Rattle.std.specs.Prelude.{◌≡◌, true, ◌↔◌}
use Rattle.macros.specs.Macro.{Table}
use Rattle.lines.specs.State.{State}
use Rattle.lines.specs.Line.{Sent}
use Rattle.lines.specs.Feeding.{with_trace}
use Rattle.form_state.specs.Access.{Holds}
use Rattle.line_memory.specs.Memory.{Memories, IsTable}
use Rattle.m_traces.specs.Traced.{TraceOver}
use Rattle.m7.specs.Feeding.{Feeds, sized_to_feed}
use Rattle.m7_demands.specs.OneFeed.{Returned, called_with}

-- THE LAW: a call answers 36 exactly when the line is traced and its lines have more than 65,536 bytes together
abbrev pub TooLongExact : Type 0
TooLongExact =
    (sent : Sent) (m : Memories) (w : Returned) (ms : Table) (st : State)
    → sized_to_feed m ≡ true → IsTable m.table ms → Holds m.state st → Feeds (called_with sent m w)
    → (w.answer.number ≡ 36) ↔ TraceOver ms st sent

-- two calls that send the same line and are lent the same table and output, the first with TRACE 1, the second with TRACE 0
pub record BothFlags (sent : Sent) (ms : Table) (st : State) (m n : Memories) (w v : Returned) : Type 0 where
  pub sized : sized_to_feed m ≡ true
  pub sized_off : sized_to_feed n ≡ true
  pub is_table : IsTable m.table ms
  pub table : n.table ≡ m.table
  pub output : n.output ≡ m.output
  pub on : Holds m.state (with_trace 1 st)
  pub off : Holds n.state (with_trace 0 st)
  pub first : Feeds (called_with sent m w)
  pub second : Feeds (called_with sent n v)

-- the same answer, table and output, and but for the flag TRACE the same state
pub record Alike (w v : Returned) : Type 0 where
  pub answers : w.answer ≡ v.answer
  pub table : w.memories.table ≡ v.memories.table
  pub output : w.memories.output ≡ v.memories.output
  pub one : State
  pub other : State
  pub holds_one : Holds w.memories.state one
  pub holds_other : Holds v.memories.state other
  pub state : with_trace 0 one ≡ with_trace 0 other

-- THE LAW: "Unless 36 comes, the line's own answer is the same with the flag on or off."
abbrev pub FlagAlike : Type 0
FlagAlike =
    (sent : Sent) (ms : Table) (st : State) (m n : Memories) (w v : Returned) → BothFlags sent ms st m n w v
    → (w.answer.number ≡ 36 → ⊥) → Alike w v

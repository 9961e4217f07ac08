-- THE CONTRACT OF m7_feed: from the lent bytes at entry, the whole answer and what each memory then holds.
-- It rules out, among others, the edits state_number (1 for bytes that are no state), feed_budget_lost (each line is fed with budget 0)
-- and fresh_smaller (a state of another size than the docs state is taken); what the answer's numbers rule out stands in crates/line_answer.
use Rattle.std.specs.Prelude.{◌≡◌, Bool, true, false, ◌&&◌, eqb, length}
use Rattle.macros.specs.Bounds.{most_line_bytes, most_trace_bytes}
use Rattle.macros.specs.Refusals.{HostRefusal, number}
use Rattle.macros.specs.Refusals.Refusal.{of_host}
use Rattle.macros.specs.Refusals.HostRefusal.{bad_memory, bad_table, bad_state}
use Rattle.macros.specs.Macro.{Table}
use Rattle.form_table.specs.Form.{table_bytes}
use Rattle.lines.specs.State.{State}
use Rattle.lines.specs.Feeding.{number_of, place_of, kind_number, output_of, feed}
use Rattle.lines.specs.Feeding.{Answer as Answered}
use Rattle.form_state.specs.Form.{state_bytes}
use Rattle.form_state.specs.Access.{Holds}
use Rattle.line_memory.specs.Memory.{Memories, Feeding, IsTable}
use Rattle.line_feed.specs.Contract.{laid_out, traced_out}
use Rattle.line_answer.specs.declared.Answer.{Answer}

-- a call: the line that it feeds, with the memories at entry and at exit, and the answer
pub record Call : Type 0 where
  pub feeding : Feeding
  pub answer : Answer

-- the answer in numbers: number, place, "the passes begun", "its kind (out, withheld, control), its length"
unfoldable pub answer_of : Answered → Answer
answer_of a = record { number = number_of a.kind; place = place_of a.kind; passes = a.passes; kind = kind_number a.kind; length = length (output_of a.kind) }

-- the call returns what the answer a says, in its answer and in every byte of its memories
pub record Returns (c : Call) (a : Answered) : Type 0 where
  pub answers : c.answer ≡ answer_of a
  pub table_holds : IsTable c.feeding.left.table a.table
  pub state_holds : Holds c.feeding.left.state a.state
  pub output_holds : c.feeding.left.output ≡ laid_out a.kind c.feeding.lent.output
  -- 02, N1
  pub trace_holds : c.feeding.left.trace ≡ traced_out a.trace_text c.feeding.lent.trace

-- the call returns a host's refusal, and every memory is as it was
pub record Refuses (c : Call) (r : HostRefusal) : Type 0 where
  pub answer : c.answer ≡ record { number = number (of_host r); place = 0; passes = 0; kind = 0; length = 0 }
  pub memories : c.feeding.left ≡ c.feeding.lent

-- the memories have the sizes that the docs state
unfoldable pub sized_to_feed : Memories → Bool
sized_to_feed m =
    eqb (length m.table) table_bytes
    && (eqb (length m.state) state_bytes && (eqb (length m.output) most_line_bytes && eqb (length m.trace) most_trace_bytes))

pub record Feeds (c : Call) : Type 0 where
  -- 3, a lent memory of another size
  pub other_size : sized_to_feed c.feeding.lent ≡ false → Refuses c bad_memory
  -- 1, bytes that are the form of no accepted table
  pub no_table : sized_to_feed c.feeding.lent ≡ true → ((ms : Table) → IsTable c.feeding.lent.table ms → ⊥) → Refuses c bad_table
  -- 2, bytes that are the form of no state in range
  pub no_state : sized_to_feed c.feeding.lent ≡ true → (ms : Table) → IsTable c.feeding.lent.table ms
      → ((st : State) → Holds c.feeding.lent.state st → ⊥) → Refuses c bad_state
  -- else what feeding the line gives
  pub fed : sized_to_feed c.feeding.lent ≡ true → (ms : Table) → IsTable c.feeding.lent.table ms
      → (st : State) → Holds c.feeding.lent.state st → Returns c (feed ms st c.feeding.sent)

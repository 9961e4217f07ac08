-- What feeding a line promises (01, part 6; 02, N1).
use Rattle.std.specs.Prelude.{ℕ, ◌-◌, ◌≡◌, List, ◌++◌, length, replicate, Result}
use Rattle.std.proofs.Math.Option.{Option, none, some}
use Rattle.macros.specs.Bounds.{most_line_bytes, most_trace_bytes}
use Rattle.macros.specs.Macro.{Table}
use Rattle.lines.specs.State.{State}
use Rattle.lines.specs.Feeding.{Kind, Answer, output_of}
use Rattle.lines.specs.Feeding.{feed as fed}
use Rattle.lines.specs.Feeding.Kind.{refused_with, out, withheld, controlled}
use Rattle.form_state.specs.Access.{Holds, IsState}
use Rattle.line_memory.specs.Memory.{Memories, Feeding, IsTable, padded}
use Rattle.line_answer.specs.Fed.{kind_of, passes_of, size_of}
use Rattle.line_answer.specs.declared.Fed.{Fed}
use Rattle.line_answer.specs.declared.LineError.{LineError}

-- the memories of a line but for its trace
pub record Untraced : Type 0 where
  pub table : List ℕ
  pub state : List ℕ
  pub output : List ℕ

abbrev pub untraced : Memories → Untraced
untraced m = record { table = m.table; state = m.state; output = m.output }

-- what the caller lends: a table, a state and room for the output
pub record LentUntraced (m : Untraced) : Type 0 where
  pub table : (ms : Table) × IsTable m.table ms
  pub state : IsState m.state
  pub room : length m.output ≡ most_line_bytes

-- and room for the trace
pub record Lent (m : Memories) : Type 0 where
  pub own : LentUntraced (untraced m)
  pub room : length m.trace ≡ most_trace_bytes

-- "Output past the line is zero"; a refusal leaves the output as it was
unfoldable pub laid_out : Kind → List ℕ → List ℕ
laid_out (refused_with r) old = old
laid_out (out t) old = t ++ replicate (most_line_bytes - length t) 0
laid_out withheld old = replicate most_line_bytes 0
laid_out controlled old = replicate most_line_bytes 0

-- the answer of the definition, and what the memories, lent as m, hold then
pub record Answers (a : Answer) (m m' : Untraced) (r : Result Fed LineError) : Type 0 where
  pub kind : a.kind ≡ kind_of r m'.output
  pub passes : a.passes ≡ passes_of r
  pub size : length (output_of a.kind) ≡ size_of r
  pub table : IsTable m'.table a.table
  pub state : Holds m'.state a.state
  pub output : m'.output ≡ laid_out a.kind m.output

-- what the trace's memory holds then (02, N1), "with zeros after the last line; what stood there before has no influence"; or it is untouched
unfoldable pub traced_out : Option (List ℕ) → List ℕ → List ℕ
traced_out none old = old
traced_out (some s) old = padded s most_trace_bytes

-- of a line that is fed
pub record Feeds (f : Feeding) (r : Result Fed LineError) : Type 0 where
  pub answers : (ms : Table) → IsTable f.lent.table ms → (st : State) → Holds f.lent.state st
      → Answers (fed ms st f.sent) (untraced f.lent) (untraced f.left) r
  pub traces : (ms : Table) → IsTable f.lent.table ms → (st : State) → Holds f.lent.state st
      → f.left.trace ≡ traced_out (fed ms st f.sent).trace_text f.lent.trace

-- What the functions that take a line promise (01, part 6).
use Rattle.std.specs.Prelude.{ℕ, ◌≤◌, ◌≡◌, Bool, true, List, length, replicate, Result}
use Rattle.macros.specs.Bounds.{most_line_bytes, most_trace_bytes}
use Rattle.macros.specs.Macro.{Table}
use Rattle.macros.specs.Formed.{Bytes}
use Rattle.lines.specs.State.{State}
use Rattle.lines.specs.Trace.{is_on, history_of}
use Rattle.lines.specs.Feeding.{answer}
use Rattle.form_state.specs.Access.{Holds, OfState}
use Rattle.line_memory.specs.Memory.{Feeding, IsTable}
use Rattle.line_answer.specs.declared.Fed.{Fed}
use Rattle.line_answer.specs.declared.LineError.{LineError}
use Rattle.line_feed.specs.Contract.{untraced, traced_out, Answers}

-- a line that 21 and 22 do not refuse
pub record Fits (t : List ℕ) : Type 0 where
  pub short : length t ≤ most_line_bytes
  pub bytes : Bytes t

-- the form of some accepted table
abbrev pub SomeTable : List ℕ → Type 0
SomeTable table = (ms : Table) × IsTable table ms

-- the number of macros, of every table with this form
pub record Counts (table : List ℕ) (count : ℕ) : Type 0 where
  pub each : (ms : Table) → IsTable table ms → length ms ≡ count

-- the memory of its own to which the trace goes that the state asks for, if it asks for one
pub record TraceRoom (b : List ℕ) (traced : Bool) (lines : List ℕ) : Type 0 where
  pub flag : OfState b (λ st. traced ≡ is_on st.trace)
  pub clear : traced ≡ true → lines ≡ replicate most_trace_bytes 0
  pub short : length lines ≤ most_trace_bytes

-- the line is taken, or refused by its passes
pub record Takes (f : Feeding) (r : Result Fed LineError) : Type 0 where
  pub answers : (ms : Table) → IsTable f.lent.table ms → (st : State) → Holds f.lent.state st
      → Answers (answer ms st (history_of ms st f.sent)) (untraced f.lent) (untraced f.left) r
  pub traces : (ms : Table) → IsTable f.lent.table ms → (st : State) → Holds f.lent.state st
      → f.left.trace ≡ traced_out (answer ms st (history_of ms st f.sent)).trace_text f.lent.trace

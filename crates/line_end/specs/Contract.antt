-- What the functions at a line's end promise (01, part 6; 02, N1).
use Rattle.std.specs.Prelude.{ℕ, ◌≤◌, ◌≡◌, List, [], length, take, Result, Ok, Err}
use Rattle.macros.specs.Bounds.{most_line_bytes}
use Rattle.macros.specs.Macro.{Table}
use Rattle.lines.specs.State.{State}
use Rattle.lines.specs.Trace.{is_on}
use Rattle.lines.specs.Feeding.{order_of}
use Rattle.form_state.specs.Form.{state_bytes}
use Rattle.form_state.specs.Access.{Holds, OfState}
use Rattle.line_memory.specs.Memory.{IsTable, Counted, laid_if}
use Rattle.line_control.specs.Contract.{Obeys}
use Rattle.line_control.specs.declared.ControlError.{ControlError}
use Rattle.line_passes.specs.Contract.{Lies}
use Rattle.line_stand.specs.declared.Ended.{Ended}
use Rattle.line_stand.specs.declared.Ended.TheVariants.{Done, Control as AtControl}
use Rattle.line_stand.specs.declared.PassesError.{PassesError}
use Rattle.line_answer.specs.Fed.{size_of}
use Rattle.line_answer.specs.declared.Fed.{Fed}
use Rattle.line_answer.specs.declared.LineError.{LineError}
use Rattle.line_end.specs.Answers.{fed_of, is_taken, leaves_trace}

-- A CONTROL LINE

-- what is lent when the passes are over: the table, the state after them and the one that came, and the memory that holds the line
pub record Obeying (table : List ℕ) (count : ℕ) (b before text : List ℕ) (e : Result Ended PassesError) : Type 0 where
  pub counted : Counted table count
  pub same : length before ≡ length b
  pub room : length text ≡ most_line_bytes
  pub lies : Lies (record { state = b; text = text; trace = [] }) e

-- table and state are as they were: the line was no control line
pub record Unruled (table table' b b' : List ℕ) (r : Result (Unit {0}) ControlError) : Type 0 where
  pub taken : r ≡ Ok tt
  pub same_table : table' ≡ table
  pub same_state : b' ≡ b

-- what a control line orders, of every table and state that the bytes are, and what table and state hold then; one that is wrong leaves the
-- table as it was, and the state that came
abbrev pub ObeyedAt : Result Ended PassesError → (table table' : List ℕ) → ℕ → (b b' before text : List ℕ) → Result (Unit {0}) ControlError → Type 0
ObeyedAt (Ok (Done n o p)) table table' count b b' before text r = Unruled table table' b b' r
ObeyedAt (Ok (AtControl n p)) table table' count b b' before text r =
    (ms : Table) → IsTable table ms → length ms ≡ count → (st : State) → Holds b st → Obeys (order_of ms st (take n text)) table table' before b' r
ObeyedAt (Err e) table table' count b b' before text r = Unruled table table' b b' r

pub record Obeyed (table table' : List ℕ) (count : ℕ) (b b' before text : List ℕ) (e : Result Ended PassesError) (r : Result (Unit {0}) ControlError) : Type 0 where
  pub obeys : ObeyedAt e table table' count b b' before text r

-- THE ANSWER

-- how many bytes may go out
abbrev pub size_at : Result Ended PassesError → ℕ
size_at (Ok (Done n o p)) = n
size_at (Ok (AtControl n p)) = 0
size_at (Err e) = 0

-- what is lent at the end: the state that came, the one after the line, the memory that holds the line, its trace, and room for both
pub record Replying (before after text lines out trace : List ℕ) (e : Result Ended PassesError) : Type 0 where
  pub came : length before ≡ state_bytes
  pub now : length after ≡ state_bytes
  pub size : size_at e ≤ length text
  pub room : length text ≤ length out
  pub trace_room : length lines ≤ length trace

-- the answer by NFLAG of the state after the line, its output, and its trace by TRACE of the state that came
pub record Replied (before after text lines out out' trace trace' : List ℕ) (e : Result Ended PassesError) (order : Result (Unit {0}) ControlError) (r : Result Fed LineError) : Type 0 where
  pub fed : OfState after (λ st. r ≡ fed_of st.nflag e order)
  pub output : out' ≡ laid_if (is_taken r) (take (size_of r) text) out
  pub traces : OfState before (λ st. trace' ≡ laid_if (leaves_trace (is_on st.trace) r) lines trace)

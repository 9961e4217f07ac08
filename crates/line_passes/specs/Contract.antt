-- THE CONTRACT OF run_line: how a line ends, and what the memories of the state, of the text and of the trace then hold (01, part 6; 02, N1).
use Rattle.std.specs.Prelude.{ℕ, ◌≤◌, ◌≡◌, Bool, true, false, List, length, take, replicate, Result, Ok, Err}
use Rattle.macros.specs.Bounds.{most_line_bytes, most_trace_bytes}
use Rattle.macros.specs.Refusals.{WorkRefusal}
use Rattle.macros.specs.Refusals.WorkRefusal.{budget_used_up, trace_too_long}
use Rattle.macros.specs.Macro.{Table}
use Rattle.macros.specs.Formed.{Bytes}
use Rattle.lines.specs.State.{State}
use Rattle.lines.specs.Line.{Sent, Line, passes_of, had_occurrence, ending}
use Rattle.lines.specs.Line.Ending.{refused, done, control}
use Rattle.lines.specs.Trace.{trace_of, is_on, history_of}
use Rattle.form_state.specs.Access.{Holds, IsState, OfState}
use Rattle.refusals.specs.Faults.{refusal_of as work_of}
use Rattle.line_memory.specs.Memory.{IsTable, Counted, padded}
use Rattle.line_stand.specs.declared.Why.{Why}
use Rattle.line_stand.specs.declared.Why.TheVariants.{BudgetUsedUp, AtWork, TraceTooLong}
use Rattle.line_stand.specs.declared.Ended.{Ended}
use Rattle.line_stand.specs.declared.Ended.TheVariants.{Done, Control}
use Rattle.line_stand.specs.declared.PassesError.{PassesError}

-- 01's refusal for each reason
abbrev pub refusal_of : Why → WorkRefusal
refusal_of BudgetUsedUp = budget_used_up
refusal_of (AtWork f) = work_of f
refusal_of TraceTooLong = trace_too_long

-- A LINE THAT RUNS: the bytes of the table with its number of macros, those of the state, what is sent, and whether it is traced
pub record Run : Type 0 where
  pub table : List ℕ
  pub count : ℕ
  pub state : List ℕ
  pub sent : Sent
  pub traced : Bool

-- what its passes write: the state and the text after them, and the trace
pub record Left : Type 0 where
  pub state : List ℕ
  pub text : List ℕ
  pub trace : List ℕ

-- what the caller lends: a table of so many macros, a state and the same again to work on, a line that 21 and 22 do not refuse, and room for the text
pub record Started (run : Run) (old : Left) : Type 0 where
  pub table : Counted run.table run.count
  pub state : IsState run.state
  pub short : length run.sent.line ≤ most_line_bytes
  pub bytes : Bytes run.sent.line
  pub same : old.state ≡ run.state
  pub text : length old.text ≡ most_line_bytes
  -- it is traced by the state's flag, and the trace's memory is zero then
  pub flag : OfState run.state (λ st. run.traced ≡ is_on st.trace)
  pub trace : run.traced ≡ true → old.trace ≡ replicate most_trace_bytes 0

-- HOW THE LINE ENDS: its history, whole, and what is answered of it

-- the state's memory is the state then, and the first n bytes of the text are the line; p passes, o whether one had an occurrence
pub record IsDone (traced : Bool) (whole : Line) (left : Left) (n : ℕ) (o : Bool) (p : ℕ) : Type 0 where
  pub state : State
  pub holds : Holds left.state state
  pub ends : ending whole ≡ done (take n left.text) state
  pub occurs : had_occurrence (passes_of whole) ≡ o
  pub count : length (passes_of whole) ≡ p
  -- the trace of all its passes, and zeros
  pub traces : traced ≡ true → left.trace ≡ padded (trace_of (passes_of whole)) most_trace_bytes

pub record IsControl (traced : Bool) (whole : Line) (left : Left) (n : ℕ) (p : ℕ) : Type 0 where
  pub state : State
  pub holds : Holds left.state state
  pub ends : ending whole ≡ control (take n left.text) state
  pub count : length (passes_of whole) ≡ p
  pub traces : traced ≡ true → left.trace ≡ padded (trace_of (passes_of whole)) most_trace_bytes

pub record IsRefused (whole : Line) (r : WorkRefusal) (p : ℕ) : Type 0 where
  pub ends : ending whole ≡ refused r
  pub count : length (passes_of whole) ≡ p

abbrev pub Comes : Bool → Line → Left → Result Ended PassesError → Type 0
Comes traced whole left (Ok (Done n o p)) = IsDone traced whole left n o p
Comes traced whole left (Ok (Control n p)) = IsControl traced whole left n p
Comes traced whole left (Err e) = IsRefused whole (refusal_of e.why) e.begun

-- WHAT IS LEFT

-- behind the line of n bytes the text is zero
pub record LineLeft (left : Left) (n : ℕ) : Type 0 where
  pub state : IsState left.state
  pub size : n ≤ most_line_bytes
  pub bytes : Bytes (take n left.text)
  pub laid : left.text ≡ padded (take n left.text) most_line_bytes

-- of a line that is not refused
abbrev pub Lies : Left → Result Ended PassesError → Type 0
Lies left (Ok (Done n o p)) = LineLeft left n
Lies left (Ok (Control n p)) = LineLeft left n
Lies left (Err e) = Unit {0}

-- a refused line leaves the state and the line that came, and the trace's memory as it was
pub record PutBack (run : Run) (old left : Left) : Type 0 where
  pub state : left.state ≡ run.state
  pub line : left.text ≡ padded run.sent.line most_line_bytes
  pub trace : left.trace ≡ old.trace

abbrev pub Back : Run → (old left : Left) → Result Ended PassesError → Type 0
Back run old left (Ok (Done n o p)) = Unit {0}
Back run old left (Ok (Control n p)) = Unit {0}
Back run old left (Err e) = PutBack run old left

-- the line runs to the end r; of the memories of a refused one nothing is said; without a trace its memory is as it was
pub record RunsTo (run : Run) (old left : Left) (r : Result Ended PassesError) : Type 0 where
  pub comes : (ms : Table) → IsTable run.table ms → length ms ≡ run.count → (st : State) → Holds run.state st
      → Comes run.traced (history_of ms st run.sent) left r
  pub lies : Lies left r
  pub untraced : run.traced ≡ false → left.trace ≡ old.trace

-- the contract
pub record Runs (run : Run) (old left : Left) (r : Result Ended PassesError) : Type 0 where
  pub runs : RunsTo run old left r
  pub back : Back run old left r

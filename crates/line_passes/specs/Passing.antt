-- What the passes of a line promise, from one to the next (01, part 6).
use Rattle.std.specs.Prelude.{ℕ, ◌+◌, ◌-◌, ◌≤◌, ◌≡◌, Bool, true, false, List, length, take, replicate, suc, ◌<◌, Result, Ok, Err}
use Rattle.kinds.specs.Kind.{kind_table}
use Rattle.macros.specs.Bounds.{most_macros, most_line_bytes, most_trace_bytes}
use Rattle.macros.specs.Macro.{Table}
use Rattle.macros.specs.Formed.{Bytes}
use Rattle.lines.specs.State.{State}
use Rattle.lines.specs.Line.{Pass, Line, passes, had_occurrence, passes_then, is_control}
use Rattle.lines.specs.Trace.{trace_of, is_on, cut_if}
use Rattle.form_state.specs.Access.{Holds, IsState, OfState}
use Rattle.pass_lack.specs.Lacking.{flags_of}
use Rattle.line_memory.specs.Memory.{IsTable, Counted, padded}
use Rattle.line_passes.specs.Contract.{Run, Left, Comes, Lies}
use Rattle.line_begin.specs.Flags.{Begun}
use Rattle.line_stand.specs.Standing.{Open}
use Rattle.line_passes.specs.Due.{due_below, Closes}
use Rattle.line_stand.specs.declared.Stand.{Stand}
use Rattle.line_stand.specs.declared.Ended.{Ended}
use Rattle.line_stand.specs.declared.PassesError.{PassesError}
use Rattle.line_stand.specs.Closed.{OpenBelow}

-- WHERE A LINE STANDS, before a pass or at its end

-- what the passes of a line only read: the table with its number of macros, the kinds, the budget, and whether the line is traced
pub record Given : Type 0 where
  pub table : List ℕ
  pub count : ℕ
  pub kinds : List ℕ
  pub budget : ℕ
  pub traced : Bool

-- what they write: the state, the text, room for a new line, the flags of the text's bytes, a byte for each macro, and the trace
pub record Memories : Type 0 where
  pub state : List ℕ
  pub text : List ℕ
  pub new : List ℕ
  pub present : List ℕ
  pub flags : List ℕ
  pub trace : List ℕ

-- the line whole, of the table ms, stands here: its passes so far, of which the numbers in a are functions; the state, the closed macros and
-- those that have passed; and behind those passes the line that is left
pub record Stands (whole : Line) (ms : Table) (g : Given) (m : Memories) (a : Stand) : Type 0 where
  pub so_far : List Pass
  pub state : State
  pub closed : List ℕ
  pub begun : List ℕ
  pub rest : whole ≡ passes_then so_far
      (cut_if g.traced (most_trace_bytes - a.written)
      (passes ms (g.budget - a.begun) closed begun (due_below a.due closed ms) state (take a.size m.text)))
  pub count : length so_far ≡ a.begun
  pub occurs : had_occurrence so_far ≡ a.occurred
  pub lines : g.traced ≡ true → take a.written m.trace ≡ trace_of so_far
  pub holds : Holds m.state state
  pub closes : Closes m.flags closed
  pub begins : Begun m.flags begun

-- every line that stands at a with the memories m stands at z with the memories m'
abbrev pub Onward : Given → Memories → Memories → Stand → Stand → Type 0
Onward g m m' a z = (whole : Line) (ms : Table) → IsTable g.table ms → length ms ≡ g.count → Stands whole ms g m a → Stands whole ms g m' z

-- the memories of the passes, where the line stands
pub record Ready (g : Given) (m : Memories) (a : Stand) : Type 0 where
  pub table : Counted g.table g.count
  pub kinds : g.kinds ≡ kind_table
  pub state : IsState m.state
  pub bytes : Bytes (take a.size m.text)
  pub text : length m.text ≡ most_line_bytes
  pub laid : m.text ≡ padded (take a.size m.text) most_line_bytes
  pub new : length m.new ≡ most_line_bytes
  pub present : m.present ≡ flags_of (take a.size m.text)
  pub flags : length m.flags ≡ most_macros
  pub begins : (begun : List ℕ) × Begun m.flags begun
  pub size : a.size ≤ most_line_bytes
  pub due : a.due ≤ g.count
  pub begun : a.begun ≤ g.budget
  pub trace : g.traced ≡ true → Open m.trace a.written

-- what the memories leave at a line's end
abbrev pub left_of : Memories → Left
left_of m = record { state = m.state; text = m.text; trace = m.trace }

-- the end of every line that stands here
pub record Ends (g : Given) (m : Memories) (left : Left) (a : Stand) (r : Result Ended PassesError) : Type 0 where
  pub comes : (whole : Line) (ms : Table) → IsTable g.table ms → length ms ≡ g.count → Stands whole ms g m a → Comes g.traced whole left r
  pub lies : Lies left r
  pub untraced : g.traced ≡ false → left.trace ≡ m.trace

-- the pass of the macro k is due
abbrev pub PassDue : Given → Memories → Stand → ℕ → Type 0
PassDue g m a k = (is_control (take a.size m.text) ≡ false) × OpenBelow m.flags a.due (suc k) × (a.begun < g.budget)

-- one pass further, or refused
abbrev pub GoesOn : Given → Memories → Memories → Stand → Result Stand PassesError → Type 0
GoesOn g m m' a (Ok z) = Ready g m' z × (z.begun ≡ a.begun + 1) × Onward g m m' a z × (g.traced ≡ false → m'.trace ≡ m.trace)
GoesOn g m m' a (Err e) = Ends g m (left_of m') a (Err e)

pub record Steps (g : Given) (m m' : Memories) (a : Stand) (r : Result Stand PassesError) : Type 0 where
  pub goes : GoesOn g m m' a r

-- FROM THE START

-- a line before its passes: the first n bytes of the text
pub record FromStart (tb : List ℕ) (count : ℕ) (old : Left) (n : ℕ) (traced : Bool) : Type 0 where
  pub table : Counted tb count
  pub state : IsState old.state
  pub text : length old.text ≡ most_line_bytes
  pub laid : old.text ≡ padded (take n old.text) most_line_bytes
  pub size : n ≤ most_line_bytes
  pub bytes : Bytes (take n old.text)
  pub flag : OfState old.state (λ st. traced ≡ is_on st.trace)
  pub trace : traced ≡ true → old.trace ≡ replicate most_trace_bytes 0

-- the line that runs so
abbrev pub run_of : List ℕ → ℕ → Left → ℕ → ℕ → Bool → Run
run_of tb count old n budget traced = record { table = tb; count = count; state = old.state; sent = record { line = take n old.text; budget = budget }; traced = traced }

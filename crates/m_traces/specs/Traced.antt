-- 02, N1: WHEN 36 COMES, AND WHAT A TRACE CHANGES. What a trace holds says Demand of crates/lines (WritesTrace).
use Rattle.std.specs.Prelude.{ℕ, suc, ◌≤◌, ◌<◌, ◌≡◌, ◌↔◌, List, length}
use Rattle.macros.specs.Bounds.{most_trace_bytes}
use Rattle.macros.specs.Refusals.Refusal.{of_work}
use Rattle.macros.specs.Refusals.WorkRefusal.{trace_too_long}
use Rattle.macros.specs.Macro.{Table}
use Rattle.lines.specs.State.{State}
use Rattle.lines.specs.Line.{Sent, Line, Ending}
use Rattle.lines.specs.Line.Line.{ended, passed}
use Rattle.lines.specs.Feeding.{Answer, with_trace, number_of, feed}
use Rattle.lines.specs.Feeding.Kind.{refused_with}
use Rattle.lines.specs.Demand.{History, TraceIs}

-- the line has TRACE 1 when it comes, and the lines of all its passes, of the pass just ended too, have more than 65,536 bytes together
pub record TraceOver (ms : Table) (st : State) (sent : Sent) : Type 0 where
  pub on : st.trace ≡ 0 → ⊥
  pub passes : Line
  pub trace : List ℕ
  pub history : History ms st sent passes
  pub told : TraceIs passes trace
  pub over : most_trace_bytes < length trace

-- THE LAW: it is refused with 36 exactly then
abbrev pub TooLongExact : Type 0
TooLongExact = (ms : Table) (st : State) (sent : Sent) → (number_of (feed ms st sent).kind ≡ 36) ↔ TraceOver ms st sent

-- the line without its last pass, ended by e
abbrev pub but_last : Ending → Line → Line
but_last e (ended d) = ended e
but_last e (passed x (ended d)) = ended e
but_last e (passed x (passed y l)) = passed x (but_last e (passed y l))

-- THE LAW: the lines of all its passes but the last fit, so that 36 comes at the first pass whose lines do not
abbrev pub FirstSuch : Type 0
FirstSuch =
    (ms : Table) (st : State) (sent : Sent) (n : ℕ) → st.trace ≡ suc n
    → (l : Line) (t : List ℕ) (e : Ending) → History ms st sent l → TraceIs (but_last e l) t → length t ≤ most_trace_bytes

-- the same answer, table and, but for the flag TRACE, the same state
pub record Alike (a b : Answer) : Type 0 where
  pub kind : a.kind ≡ b.kind
  pub passes : a.passes ≡ b.passes
  pub table : a.table ≡ b.table
  pub state : with_trace 0 a.state ≡ with_trace 0 b.state

-- THE LAW: "Unless 36 comes, the line's own answer is the same with the flag on or off."
abbrev pub FlagAlike : Type 0
FlagAlike =
    (ms : Table) (st : State) (sent : Sent) → ((feed ms (with_trace 1 st) sent).kind ≡ refused_with (of_work trace_too_long) → ⊥)
    → Alike (feed ms (with_trace 1 st) sent) (feed ms (with_trace 0 st) sent)

-- What a fed line comes to, in the terms of the definitions. 3, 1 and 2 come before that, and are answered in crates/m7.
use Rattle.std.specs.Prelude.{ℕ, List, take, Result, Ok, Err}
use Rattle.macros.specs.Refusals.{Refusal}
use Rattle.macros.specs.Refusals.Refusal.{of_host, of_line, of_file, of_work}
use Rattle.macros.specs.Refusals.HostRefusal.{budget_too_large}
use Rattle.macros.specs.Refusals.LineRefusal.{line_too_long, bad_byte, bad_control}
use Rattle.macros.specs.Refusals.WorkRefusal.{budget_used_up, trace_too_long}
use Rattle.lines.specs.Feeding.{Kind}
use Rattle.lines.specs.Feeding.Kind.{refused_with, out, withheld, controlled}
use Rattle.read_scan.specs.Scan.{fault_of}
use Rattle.refusals.specs.Faults.{refusal_of as work_of}
use Rattle.line_test.specs.declared.Why.{Why as FirstWhy}
use Rattle.line_test.specs.declared.Why.TheVariants.{BudgetTooLarge as Large, LineTooLong as Long, BadByte as Bad}
use Rattle.line_control.specs.declared.ControlError.{ControlError}
use Rattle.line_control.specs.declared.ControlError.TheVariants.{BadControl as NoControl, InMacro as NoMacro}
use Rattle.line_stand.specs.declared.Why.{Why as WorkWhy}
use Rattle.line_stand.specs.declared.Why.TheVariants.{BudgetUsedUp as UsedUp, AtWork as Stopped, TraceTooLong as TraceFull}
use Rattle.line_stand.specs.declared.PassesError.{PassesError}
use Rattle.line_answer.specs.declared.Why.{Why}
use Rattle.line_answer.specs.declared.Why.TheVariants.{BudgetTooLarge, LineTooLong, BadByte, BadControl, InMacro, BudgetUsedUp, AtWork, TraceTooLong}
use Rattle.line_answer.specs.declared.Fed.{Fed}
use Rattle.line_answer.specs.declared.LineError.{LineError}
use Rattle.line_answer.specs.declared.Fed.TheVariants.{Out, Withheld, Control}

-- 01's refusal for each reason
abbrev pub refusal_of : Why → Refusal
refusal_of BudgetTooLarge = of_host budget_too_large
refusal_of LineTooLong = of_line line_too_long
refusal_of BadByte = of_line bad_byte
refusal_of BadControl = of_line bad_control
refusal_of (InMacro e) = of_file (fault_of e.fault) e.place
refusal_of BudgetUsedUp = of_work budget_used_up
refusal_of (AtWork f) = of_work (work_of f)
refusal_of TraceTooLong = of_work trace_too_long

-- the reason of a line that is refused before its passes
abbrev pub first_why : FirstWhy → Why
first_why Large = BudgetTooLarge
first_why Long = LineTooLong
first_why Bad = BadByte

-- of a control line
abbrev pub control_why : ControlError → Why
control_why NoControl = BadControl
control_why (NoMacro e) = InMacro e

-- and of a table at work
abbrev pub work_why : WorkWhy → Why
work_why UsedUp = BudgetUsedUp
work_why (Stopped f) = AtWork f
work_why TraceFull = TraceTooLong

-- a line that its passes refuse
abbrev pub passes_refused : PassesError → LineError
passes_refused e = record { why = work_why e.why; passes = e.begun }

-- an answer's kind, with the line that stands in the output
abbrev pub kind_of : Result Fed LineError → List ℕ → Kind
kind_of (Ok (Out p n)) o = out (take n o)
kind_of (Ok (Withheld p)) o = withheld
kind_of (Ok (Control p)) o = controlled
kind_of (Err e) o = refused_with (refusal_of e.why)

-- the passes begun
abbrev pub passes_of : Result Fed LineError → ℕ
passes_of (Ok (Out p n)) = p
passes_of (Ok (Withheld p)) = p
passes_of (Ok (Control p)) = p
passes_of (Err e) = e.passes

-- how many bytes go out; "a withheld or control line has length 0", and so has a refused one
abbrev pub size_of : Result Fed LineError → ℕ
size_of (Ok (Out p n)) = n
size_of (Ok (Withheld p)) = 0
size_of (Ok (Control p)) = 0
size_of (Err e) = 0

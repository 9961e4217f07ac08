-- What a line answers, from its end and its control line, and what goes to the memories (01, part 6; 02, N1).
use Rattle.std.specs.Prelude.{ℕ, zero, suc, Bool, true, false, Result, Ok, Err}
use Rattle.line_control.specs.declared.ControlError.{ControlError}
use Rattle.line_stand.specs.declared.Ended.{Ended}
use Rattle.line_stand.specs.declared.Ended.TheVariants.{Done, Control as AtControl}
use Rattle.line_stand.specs.declared.PassesError.{PassesError}
use Rattle.line_answer.specs.declared.Fed.{Fed}
use Rattle.line_answer.specs.declared.Fed.TheVariants.{Out, Withheld, Control}
use Rattle.line_answer.specs.declared.LineError.{LineError}
use Rattle.line_answer.specs.Fed.{control_why, passes_refused}

-- THE ANSWER

-- "withheld if NFLAG is 1 and it had no occurrence"
unfoldable pub withheld_by : ℕ → Bool → Bool
withheld_by n true = false
withheld_by zero false = false
withheld_by (suc n) false = true

-- of a line that is done, withheld or not
abbrev pub done_fed : (held : Bool) → (n p : ℕ) → Fed
done_fed true n p = Withheld p
done_fed false n p = Out p n

-- of a control line
abbrev pub ruled_fed : Result (Unit {0}) ControlError → ℕ → Result Fed LineError
ruled_fed (Ok u) p = Ok (Control p)
ruled_fed (Err w) p = Err (record { why = control_why w; passes = p })

-- of any line: flag is NFLAG after it, and the order what came of it if it was a control line
abbrev pub fed_of : (flag : ℕ) → Result Ended PassesError → Result (Unit {0}) ControlError → Result Fed LineError
fed_of flag (Ok (Done n o p)) order = Ok (done_fed (withheld_by flag o) n p)
fed_of flag (Ok (AtControl n p)) order = ruled_fed order p
fed_of flag (Err e) order = Err (passes_refused e)

-- THE MEMORIES

-- whether the state that came is put back behind a control line
abbrev pub is_wrong : Result (Unit {0}) ControlError → Bool
is_wrong (Ok u) = false
is_wrong (Err w) = true

-- whether a line is not refused
abbrev pub is_taken : Result Fed LineError → Bool
is_taken (Ok f) = true
is_taken (Err e) = false

-- whether it leaves a trace
abbrev pub leaves_trace : (traced : Bool) → Result Fed LineError → Bool
leaves_trace traced (Ok f) = traced
leaves_trace traced (Err e) = false

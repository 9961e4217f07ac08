-- What a pass's function promises (01, part 5).
use Rattle.std.specs.Prelude.{ℕ, ◌≤◌, ◌≡◌, Bool, true, false, List, length, take, drop, Result, Ok, Err}
use Rattle.kinds.specs.Kind.{kind_table}
use Rattle.macros.specs.Bounds.{most_line_bytes}
use Rattle.macros.specs.Macro.{Macro}
use Rattle.macros.specs.Formed.{Bytes}
use Rattle.lines.specs.State.{State}
use Rattle.lines.specs.Replacing.{Work, Done}
use Rattle.lines.specs.Replacing.Done.{bad, good}
use Rattle.lines.specs.Pass.{pass, occurred, outcome}
use Rattle.lines.specs.Line.{text_of}
use Rattle.refusals.specs.declared.WorkError.{WorkError}
use Rattle.pass_lack.specs.Lacking.{flags_of}
use Rattle.form_state.specs.Access.{Holds, IsState}
use Rattle.refusals.specs.Faults.{refusal_of}
use Rattle.pass_replace.specs.Contract.{IsSlot}
use Rattle.pass_steps.specs.Moments.{IsMoment}
use Rattle.pass_moment.specs.declared.Passed.{Passed}

-- what the caller lends: a macro's slot, the kinds, the flags of the line's bytes, the line, a state and room for the new line
pub record Lent (s kinds present t b out : List ℕ) : Type 0 where
  pub macro : (m : Macro) × IsSlot s m
  pub table : kinds ≡ kind_table
  pub flags : present ≡ flags_of t
  pub bytes : Bytes t
  pub short : length t ≤ most_line_bytes
  pub state : IsState b
  pub room : length out ≡ most_line_bytes

-- what an answer says of the moment v that it leaves
abbrev pub done_of : Result Passed WorkError → Work → Done
done_of (Ok p) v = good v
done_of (Err e) v = bad (refusal_of e.fault) v

-- the bytes of the new line
abbrev pub size_of : Result Passed WorkError → ℕ
size_of (Ok p) = p.size
size_of (Err e) = e.size

-- whether a pass that was not refused had an occurrence
abbrev pub SaysOccurred : Result Passed WorkError → Bool → Type 0
SaysOccurred (Ok p) b = p.occurred ≡ b
SaysOccurred (Err e) b = Unit {0}

-- what the memories hold behind a pass that was not refused, o whether it had an occurrence: the state, and the new line of n bytes;
-- without an occurrence they are as they were
pub record Leaves (b b' out out' : List ℕ) (o : Bool) (n : ℕ) (v : Work) : Type 0 where
  pub size : v.size ≡ n
  pub state : Holds b' v.state
  pub line : o ≡ true → text_of v ≡ take n out'
  pub still : o ≡ false → (b' ≡ b) × (out' ≡ out)

-- the moment v that the memories hold
abbrev pub HeldBy : (b b' out out' : List ℕ) → Result Passed WorkError → Work → Type 0
HeldBy b b' out out' (Ok p) v = Leaves b b' out out' p.occurred p.size v
HeldBy b b' out out' (Err e) v = IsMoment out' b' e.size v

-- a pass of the macro m over the line t from the state st: the moment that the memories hold then
pub record Comes (t b b' out out' : List ℕ) (r : Result Passed WorkError) (m : Macro) (st : State) : Type 0 where
  pub moment : (v : Work) × (outcome (pass m t st) ≡ done_of r v) × HeldBy b b' out out' r v
  pub says : SaysOccurred r (occurred (pass m t st))

-- the pass of the definition, done or refused; behind the new line nothing changes
pub record Passes (s t b b' out out' : List ℕ) (r : Result Passed WorkError) : Type 0 where
  pub comes : (m : Macro) → IsSlot s m → (st : State) → Holds b st → Comes t b b' out out' r m st
  pub past : drop (size_of r) out' ≡ drop (size_of r) out
  pub within : size_of r ≤ most_line_bytes

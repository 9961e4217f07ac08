-- What a pass of a macro promises, with how it begins (01, part 6; 02, N2).
use Rattle.std.specs.Prelude.{ℕ, ◌≤◌, ◌<◌, ◌≡◌, Bool, true, List, length, take, Result, Ok, Err}
use Rattle.macros.specs.Bounds.{most_macros, most_line_bytes}
use Rattle.macros.specs.Macro.{Macro}
use Rattle.lines.specs.State.{State}
use Rattle.lines.specs.Replacing.{Work}
use Rattle.lines.specs.Pass.{occurred, outcome}
use Rattle.lines.specs.Line.{Pass, is_in, prepares, pass_of, text_of}
use Rattle.form_state.specs.Access.{Holds}
use Rattle.refusals.specs.declared.WorkError.{WorkError}
use Rattle.pass_steps.specs.Moments.{done_of}
use Rattle.pass_replace.specs.Contract.{IsSlot, Prepared}
use Rattle.pass_moment.specs.declared.Passed.{Passed}
use Rattle.pass_one.specs.Contract.{Lent, SaysOccurred, size_of, done_of as passed_of}
use Rattle.line_begin.specs.Flags.{Begun, begun_flags}

-- THE CALLS BEFORE A PATTERN

-- what is lent for them: the slot of the macro k, the state, and the macros' bytes
pub record PrepareLent (s b bytes : List ℕ) (k : ℕ) : Type 0 where
  pub calls : Prepared s b
  pub few : k < most_macros
  pub flags : length bytes ≡ most_macros

-- the state is then that in which place 0 is tried, or the one of the refusal; the macro has begun
pub record MacroPrepares (s b b' bytes bytes' : List ℕ) (k : ℕ) (r : Result ℕ WorkError) : Type 0 where
  pub comes : (m : Macro) → IsSlot s m → (begun : List ℕ) → Begun bytes begun → (st : State) → Holds b st
      → (v : Work) × (prepares (is_in k begun) m st ≡ done_of r v) × Holds b' v.state
  pub flags : bytes' ≡ begun_flags bytes k

-- A PASS

-- what it changes: the state, the new line and the macros' bytes
pub record Tried : Type 0 where
  pub state : List ℕ
  pub new : List ℕ
  pub flags : List ℕ

-- what is lent for a pass of the macro k
pub record PassLent (s kinds present t b new bytes : List ℕ) (k : ℕ) : Type 0 where
  pub pass : Lent s kinds present t b new
  pub few : k < most_macros
  pub flags : length bytes ≡ most_macros
  pub begins : (begun : List ℕ) × Begun bytes begun

-- the state after a pass, and the new line of n bytes, if it had an occurrence
pub record Leaves (o : Bool) (n : ℕ) (m : Tried) (v : Work) : Type 0 where
  pub state : Holds m.state v.state
  pub line : o ≡ true → text_of v ≡ take n m.new

-- the moment that a pass leaves; of a refused one nothing is said
abbrev pub MomentOf : Result Passed WorkError → Tried → Work → Type 0
MomentOf (Ok p) m v = Leaves p.occurred p.size m v
MomentOf (Err e) m v = Unit {0}

-- the pass x of the history
pub record PassComes (m : Tried) (r : Result Passed WorkError) (x : Pass) : Type 0 where
  pub moment : (v : Work) × (outcome x.events ≡ passed_of r v) × MomentOf r m v
  pub says : SaysOccurred r (occurred x.events)

-- it is that of the definition, begun by the macros that passed before; the macro has begun
pub record PassRuns (s t : List ℕ) (m m' : Tried) (k : ℕ) (r : Result Passed WorkError) : Type 0 where
  pub comes : (x : Macro) → IsSlot s x → (begun : List ℕ) → Begun m.flags begun → (st : State) → Holds m.state st
      → PassComes m' r (pass_of begun (record { number = k; macro = x }) t st)
  pub within : size_of r ≤ most_line_bytes
  pub flags : m'.flags ≡ begun_flags m.flags k

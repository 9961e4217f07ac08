-- What the functions over a state's bytes say.
use Rattle.std.specs.Prelude.{◌≡◌, List, [], ◌∷◌, ◌++◌, ℕ, zero, suc, ◌+◌, ◌-◌, ◌*◌, length, take, drop}
use Rattle.macros.specs.Bounds.{most_entry_bytes}
use Rattle.lines.specs.State.{State, InRange, stack_of}
use Rattle.lines.specs.Replacing.{Work}
use Rattle.form_state.specs.Form.{state_form, entries_from, stack_bytes}

-- the bytes b are the form of the state st
pub record Holds (b : List ℕ) (st : State) : Type 0 where
  pub in_range : InRange st
  pub form : state_form st ≡ b

-- the bytes are the form of some state
abbrev pub IsState : List ℕ → Type 0
IsState b = (st : State) × Holds b st

-- a claim about every state whose form the bytes are
abbrev pub OfState : List ℕ → (State → Type 0) → Type 0
OfState b claim = (st : State) → Holds b st → claim st

-- a claim about every moment of a pass whose state the bytes are
abbrev pub OfWork : List ℕ → (Work → Type 0) → Type 0
OfWork b claim = (w : Work) → Holds b w.state → claim w

-- the bytes b with the bytes v from place p on
unfoldable pub replaced : List ℕ → ℕ → List ℕ → List ℕ
replaced b p v = take p b ++ (v ++ drop (p + length v) b)

-- how many bytes stand in front of the first 0
unfoldable pub text_length : List ℕ → ℕ
text_length [] = 0
text_length (zero ∷ b) = 0
text_length (suc x ∷ b) = suc (text_length b)

-- where the current entry of the letter i stands: behind the flags, pointers, values and increments come the stacks, 2,000 bytes each
abbrev pub entry_place : State → ℕ → ℕ
entry_place st i = entries_from + (stack_bytes * (i - 97) + most_entry_bytes * ((stack_of st i).pointer - 1))

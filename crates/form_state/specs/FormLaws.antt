-- What is promised of the form of a state.
use Rattle.std.specs.Prelude.{◌≡◌, length}
use Rattle.macros.specs.Formed.{Octets}
use Rattle.lines.specs.State.{State, InRange}
use Rattle.form_state.specs.Form.{state_bytes, state_form}

-- The form of a state in range has 52,236 bytes, each at most 255.
abbrev pub StateSize : Type 0
StateSize = (st : State) → InRange st → (length (state_form st) ≡ state_bytes) × Octets (state_form st)

-- Two states in range with the same form are the same state.
abbrev pub OneStateForm : Type 0
OneStateForm = (st other : State) → InRange st → InRange other → state_form st ≡ state_form other → st ≡ other

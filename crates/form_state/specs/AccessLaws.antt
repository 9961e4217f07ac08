-- What is read of a state's bytes is what the form has there.
-- EntryStands rules out the edits entry_place_99 (entries stand 99 bytes apart) and entry_place_turned (the stacks stand in another order).
use Rattle.std.specs.Prelude.{◌≡◌, List, ℕ, take, drop}
use Rattle.macros.specs.Bounds.{most_entry_bytes}
use Rattle.macros.specs.Formed.{Letter}
use Rattle.lines.specs.State.{State, current_entry}
use Rattle.form_state.specs.Form.{entry_form}
use Rattle.form_state.specs.Access.{Holds, entry_place}

-- Where the current entry of a letter is read, it stands, with its zeros: the law of `entry_at`.
abbrev pub EntryStands : Type 0
EntryStands =
    (b : List ℕ) (st : State) → Holds b st → (i : ℕ) → Letter i
    → take most_entry_bytes (drop (entry_place st i) b) ≡ entry_form (current_entry st i)

-- What is promised of states of the old size (02, N6). WidensForm and OldExact rule out the edit tail_of_ones (ones stand behind an entry
-- that was widened), NarrowsForm the edit front_lost (flags, pointers, values and increments are not carried over), ShortExact the edit
-- entry_of_51 (an entry of 51 bytes is short).
use Rattle.std.specs.Prelude.{◌≡◌, ◌↔◌, true, List, ℕ, length}
use Rattle.macros.specs.Bounds.{old_entry_bytes}
use Rattle.macros.specs.Formed.{Octets}
use Rattle.lines.specs.State.{State, fresh}
use Rattle.m_widths.specs.Widths.{widened, narrowed, Short}
use Rattle.form_state.specs.Form.{state_form, state_form_by}
use Rattle.form_state.specs.Check.{state_checks}
use Rattle.form_state.specs.Access.{Holds}
use Rattle.form_old.specs.Old.{old_state_bytes, HoldsOld, widened_bytes, narrowed_bytes, short_entries}

-- the fresh state, narrowed, is an old state
abbrev pub OldFresh : Type 0
OldFresh = HoldsOld (state_form_by old_entry_bytes fresh) (narrowed fresh)

-- an old state has the old size
abbrev pub OldSize : Type 0
OldSize = (b : List ℕ) (st : State) → HoldsOld b st → length b ≡ old_state_bytes

-- no two old states have the same bytes
abbrev pub OldOneForm : Type 0
OldOneForm = (b : List ℕ) (st other : State) → HoldsOld b st → HoldsOld b other → st ≡ other

-- the bytes of an old state, widened, are the form of the same state with the new bound
abbrev pub WidensForm : Type 0
WidensForm = (b : List ℕ) (st : State) → HoldsOld b st → widened_bytes b ≡ state_form (widened st)

-- 2: bytes of the old size are an old state exactly if, widened, they pass the check of a state
abbrev pub OldExact : Type 0
OldExact =
    (b : List ℕ) → Octets b → length b ≡ old_state_bytes → (state_checks (widened_bytes b) ≡ true) ↔ ((st : State) × HoldsOld b st)

-- the bytes of a state without an entry over 50 bytes, narrowed, are the same state in the old form
abbrev pub NarrowsForm : Type 0
NarrowsForm = (b : List ℕ) (st : State) → Holds b st → Short st → narrowed_bytes b ≡ state_form_by old_entry_bytes st

-- 42: a state has an entry over 50 bytes exactly if the check of its bytes fails
abbrev pub ShortExact : Type 0
ShortExact = (b : List ℕ) (st : State) → Holds b st → (short_entries b ≡ true) ↔ Short st

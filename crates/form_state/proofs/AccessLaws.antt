-- The law of what is read of a state's bytes.
use mathlib.Core.Path.{refl}
use Rattle.form_state.specs.Access.{entry_place}
use Rattle.form_state.specs.AccessLaws.{EntryStands}
use Rattle.form_state.proofs.Held.{read_entry}

pub entry_stands : EntryStands
entry_stands b st h i l = read_entry b st h i l (entry_place st i) refl

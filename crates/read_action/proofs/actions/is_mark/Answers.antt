use mathlib.Core.Logic.{⊎_elim}
use mathlib.Core.Path.{refl}
use Rattle.macros.specs.Macro.{mark_byte}
use Rattle.read_action.proofs.actions.is_mark.Goals as goal

pub returns-in-38 : goal.returns-in-38
unfolding mark_byte
returns-in-38 c = ⊎_elim (λ e. rw e refl) (λ e. rw e refl) c.in-38.is

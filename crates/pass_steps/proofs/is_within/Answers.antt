use mathlib.Core.Path.{refl}
use Rattle.macros.specs.Macro.{within}
use Rattle.pass_steps.proofs.is_within.Goals as goal

pub returns : goal.returns
unfolding within
returns c = refl

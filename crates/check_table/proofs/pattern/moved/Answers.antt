use mathlib.Core.Path.{refl}
use Rattle.check_table.specs.PatternCode.{state_of, next_of}
use Rattle.check_table.proofs.pattern.moved.Goals as goal

pub returns : goal.returns
unfolding state_of next_of
returns c = refl

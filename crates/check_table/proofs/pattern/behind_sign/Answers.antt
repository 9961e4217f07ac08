use native.Mathlib.Numerals.{add-one}
use Rattle.check_table.specs.PatternCode.{joint_of, spot_of, state_of, next_of}
use Rattle.check_table.proofs.pattern.behind_sign.Goals as goal

pub returns : goal.returns
unfolding joint_of spot_of state_of next_of
returns c = rw add-one

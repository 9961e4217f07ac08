use mathlib.Core.Path.{◌∙◌}
use native.Mathlib.Omega.{arith}
use Rattle.form_bytes.specs.Fours.{with_number}
use Rattle.form_bytes.proofs.Laws.{put_equal}
use Rattle.form_bytes.proofs.put_number.Goals as goal

pub returns : goal.returns
unfolding with_number
returns c = put_equal _ _ c.args.at _ _ c.args.n (omega arith) (c.copy_from_slice.ensures.after ∙ c.to_le_bytes.ensures) (omega arith) (omega (arith, c.ranges.n.fits))

use mathlib.Core.Path.{ap}
use native.Mathlib.Omega.{arith}
use lib.ListN.{length}
use Rattle.pass_unit.proofs.TextLaws.{digits_longer, digits_few}
use Rattle.pass_unit.proofs.number_width.Goals as goal

pub loop-m-preserved : goal.loop-m-preserved
loop-m-preserved c = let l = digits_longer c.loop-m.m c.loop-m-test.true in (omega arith, omega arith)

pub returns : goal.returns
returns c = let l = ap length (digits_few c.loop-m.m c.loop-m-test.false) in omega arith

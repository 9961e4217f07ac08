use native.Mathlib.Omega.{arith}
use Prim.Native.Nat.{◌/◌}
use Rattle.pass_unit.proofs.TextLaws.{number_few, number_not, number_then, number_inside}
use Rattle.pass_unit.proofs.+number_at.Goals as goal

pub returns-then-n-lt10 : goal.returns-then-n-lt10
returns-then-n-lt10 t c = number_few c.args.n c.args.line.now c.args.p c.if-n-lt10.true _ c.digit_at.ensures

pub returns-in_default : goal.returns-in_default
returns-in_default t c = number_not c.args.n c.args.line.now c.args.p c.if-n-lt10.false c.in_default.ensures

pub digit_at-requires-2 : goal.digit_at-requires-2
digit_at-requires-2 t c = (omega arith, number_inside (c.args.n / 10) c.args.line.now c.args.p _ c.requires c.in-Some.ensures)

pub returns : goal.returns
returns t c = number_then c.args.n c.args.line.now c.args.p c.if-n-lt10.false _ c.in-Some.ensures _ c.digit_at-2.ensures

use native.Mathlib.Omega.{arith}
use Rattle.pass_call.proofs.Moving.{moved_some, value_in, increment_in, value_past, value_moves}
use Rattle.pass_call.proofs.move_value.Goals as goal

pub moved-n-requires : goal.moved-n-requires
moved-n-requires c = ((value_in c.args.state.now c.args.i c.args.size c.requires.0 c.value.result c.increment.result c.value.ensures c.increment.ensures).1, (increment_in c.args.state.now c.args.i c.args.size c.requires.0 c.value.result c.increment.result c.value.ensures c.increment.ensures).1)

pub returns-then-n-gt999999999 : goal.returns-then-n-gt999999999
returns-then-n-gt999999999 c = value_past c.args.state.now c.args.i c.args.size c.requires.0 c.value.result c.increment.result c.value.ensures c.increment.ensures c.args.up c.moved-n.ensures c.if-n-gt999999999.true

pub set_value-requires : goal.set_value-requires
set_value-requires c = (c.requires.0, c.requires.1, omega (arith, moved_some c.value.result c.increment.result c.args.up (value_in c.args.state.now c.args.i c.args.size c.requires.0 c.value.result c.increment.result c.value.ensures c.increment.ensures).0, c.moved-n.ensures, c.if-n-gt999999999.false))

pub returns : goal.returns
returns c = value_moves c.args.state.now c.args.i c.args.size c.requires.0 c.value.result c.increment.result c.value.ensures c.increment.ensures c.args.up c.moved-n.ensures c.if-n-gt999999999.false c.set_value.ensures

use native.Mathlib.Omega.{arith}
use Rattle.pass_call.proofs.Moving.{sets_pointer, sets_value, sets_increment_lem}
use Rattle.pass_call.proofs.set.Goals as goal

pub returns-in-0-to-87 : goal.returns-in-0-to-87
returns-in-0-to-87 c = sets_pointer c.args.code c.args.i c.args.n c.args.state.now c.args.size c.requires.0 (omega arith) c.set_pointer.ensures

pub returns-in-88-to-95 : goal.returns-in-88-to-95
returns-in-88-to-95 c = sets_value c.args.code c.args.i c.args.n c.args.state.now c.args.size c.requires.0 (omega arith) (omega arith) c.set_value.ensures

pub returns-in_default : goal.returns-in_default
returns-in_default c = sets_increment_lem c.args.code c.args.i c.args.n c.args.state.now c.args.size c.requires.0 (omega arith) c.set_increment.ensures

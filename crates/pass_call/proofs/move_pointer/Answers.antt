use mathlib.Core.Path.{◌∙◌}
use native.Mathlib.Omega.{arith}
use Rattle.pass_call.proofs.Moving.{moved_some, pointer_in, pointer_past, pointer_moves}
use Rattle.pass_call.proofs.move_pointer.Goals as goal

pub returns-then-n-gt20 : goal.returns-then-n-gt20
returns-then-n-gt20 c = pointer_past c.args.state.now c.args.i c.args.size c.requires.0 c.from.result (λ st h. c.from.ensures ∙ c.pointer.ensures st h) c.args.up c.moved-n.ensures c.if-n-gt20.true

pub set_pointer-requires : goal.set_pointer-requires
set_pointer-requires c = (c.requires.0, c.requires.1, omega (arith, moved_some c.from.result 1 c.args.up (pointer_in c.args.state.now c.args.i c.args.size c.requires.0 c.from.result (λ st h. c.from.ensures ∙ c.pointer.ensures st h)).0, c.moved-n.ensures, c.if-n-gt20.false))

pub returns : goal.returns
returns c = pointer_moves c.args.state.now c.args.i c.args.size c.requires.0 c.from.result (λ st h. c.from.ensures ∙ c.pointer.ensures st h) c.args.up c.moved-n.ensures c.if-n-gt20.false c.set_pointer.ensures

use mathlib.Core.Path.{refl}
use native.Mathlib.Omega.{arith}
use Rattle.form_state.proofs.Held.{is_long_lem, pointer_set}
use Rattle.pass_call.proofs.setting.set_pointer.Goals as goal

pub bounds-state-at : goal.bounds-state-at
bounds-state-at c = omega (arith, is_long_lem c.args.state.now c.requires.0)

pub returns : goal.returns
returns c = λ w h. pointer_set c.args.state.now _ c.args.i w h c.requires.1 c.args.n c.letter_number-at.result c.requires.2 c.letter_number-at.ensures.0 refl

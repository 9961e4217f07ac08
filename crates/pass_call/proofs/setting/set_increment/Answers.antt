use native.Mathlib.Omega.{arith}
use Rattle.form_bytes.specs.Fours.{four, with_number}
use Rattle.form_state.specs.Access.{replaced}
use Rattle.form_state.proofs.Held.{is_long_lem, increment_set}
use Rattle.pass_call.proofs.setting.set_increment.Goals as goal

pub put_number-requires : goal.put_number-requires
put_number-requires c = omega (arith, is_long_lem c.args.state.now c.requires.0)

pub returns : goal.returns
unfolding replaced four with_number
returns c = λ w h. increment_set c.args.state.now c.put_number.new.out c.args.i w h c.requires.1 c.args.n c.letter_number.result c.requires.2 c.letter_number.ensures.0 c.put_number.ensures

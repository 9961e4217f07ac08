use mathlib.Core.Path.{◌∙◌}
use native.Mathlib.Omega.{arith}
use Rattle.form_state.proofs.Held.{is_long_lem, read_increment}
use Rattle.form_state.proofs.increment.Goals as goal

pub number_at-requires : goal.number_at-requires
number_at-requires c = omega (arith, is_long_lem c.args.state.now c.requires.0)

pub returns : goal.returns
returns c = λ st h. c.number_at.ensures ∙ read_increment c.args.state.now st h c.args.i c.letter_number.result c.requires.1 c.letter_number.ensures.0

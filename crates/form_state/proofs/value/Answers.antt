use mathlib.Core.Path.{◌∙◌}
use native.Mathlib.Omega.{arith}
use Rattle.form_state.proofs.Held.{is_long_lem, read_value}
use Rattle.form_state.proofs.value.Goals as goal

pub overflow_mul-letter_number : goal.overflow_mul-letter_number
overflow_mul-letter_number c = omega (arith, c.requires)

pub number_at-requires : goal.number_at-requires
number_at-requires c = omega (arith, is_long_lem c.args.state.now c.requires.0)

pub returns : goal.returns
returns c = λ st h. c.number_at.ensures ∙ read_value c.args.state.now st h c.args.i c.letter_number.result c.requires.1 c.letter_number.ensures.0

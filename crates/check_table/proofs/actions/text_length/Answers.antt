use Rattle.form_table.specs.ActionWalk.{text_length}
use Rattle.form_marks.proofs.ByteLaws.{bit_small}
use native.Mathlib.Omega.{arith}
use Rattle.check_table.proofs.actions.text_length.Goals as goal

pub overflow_add-result : goal.overflow_add-result
overflow_add-result c = omega (arith, bit_small _ _ c.bit.ensures)

pub returns : goal.returns
unfolding text_length
returns c = rw (c.bit.ensures, c.is_text_sign.ensures)

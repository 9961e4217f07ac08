use Rattle.form_table.specs.ActionWalk.{literal_length}
use Rattle.form_marks.proofs.ByteLaws.{bit_small}
use native.Mathlib.Omega.{arith}
use Rattle.check_table.proofs.actions.literal_length.Goals as goal

pub overflow_add-result : goal.overflow_add-result
overflow_add-result c = omega (arith, bit_small _ _ c.bit.ensures)

pub returns : goal.returns
unfolding literal_length
returns c = rw (c.bit.ensures, c.is_replacement_sign.ensures)

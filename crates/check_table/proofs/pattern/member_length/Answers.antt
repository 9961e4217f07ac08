use Rattle.form_table.specs.PatternWalk.{member_length}
use mathlib.Core.Path.{sym}
use Rattle.check_table.proofs.PatternLaws.{inside_start}
use Rattle.form_marks.proofs.ByteLaws.{bit_small}
use native.Mathlib.Omega.{arith}
use Rattle.check_table.proofs.pattern.member_length.Goals as goal

pub overflow_add-result : goal.overflow_add-result
overflow_add-result c = omega (arith, bit_small _ _ c.bit.ensures)

pub returns : goal.returns
unfolding member_length
returns c = rw (c.bit.ensures, c.is_class_sign.ensures, sym (inside_start c.args.w))

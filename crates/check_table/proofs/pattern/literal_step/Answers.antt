use mathlib.Core.Path.{◌∙◌}
use Rattle.form_table.specs.PatternWalk.{element_step}
use Rattle.check_table.specs.PatternCode.{next_of}
use Rattle.check_table.proofs.PatternLaws.{literal_not, literal_law}
use Rattle.check_table.proofs.WalkLaws.{literal_small}
use native.Mathlib.Omega.{arith}
use Rattle.check_table.proofs.pattern.literal_step.Goals as goal

pub returns-then-o-lt1 : goal.returns-then-o-lt1
unfolding element_step next_of
returns-then-o-lt1 c = rw (literal_not _ c.if-o-lt1.true)

pub overflow_add-s : goal.overflow_add-s
overflow_add-s c = omega (arith, literal_small _ _ _ c.literal_length.ensures)

pub behind-requires : goal.behind-requires
behind-requires c = omega (arith, literal_small _ _ _ c.literal_length.ensures)

pub returns : goal.returns
returns c = c.behind.ensures ∙ literal_law _ _ _ _ _ _ _ _ _ c.literal_length.ensures c.literal_joint.ensures c.if-o-lt1.false (omega arith)

use mathlib.Core.Path.{◌∙◌}
use Rattle.macros.specs.Macro.{within}
use Rattle.form_table.specs.Walk.{given}
use Rattle.form_table.specs.ActionWalk.{high_step}
use Rattle.check_table.specs.ActionCode.{spot_of, next_of}
use Rattle.check_table.proofs.ActionLaws.{figures_small}
use native.Mathlib.Omega.{arith}
use Rattle.check_table.proofs.actions.high_step.Goals as goal

pub overflow_add-n : goal.overflow_add-n
overflow_add-n c = omega (arith, figures_small _ _ c.figures.ensures)

pub returns-then-w-l : goal.returns-then-w-l
unfolding within given high_step spot_of next_of
returns-then-w-l c = c.at.ensures ∙ rw (c.figures.ensures, c.if-w-l.true)

pub returns : goal.returns
unfolding within given high_step spot_of next_of
returns c = rw c.if-w-l.false

use mathlib.Core.Path.{◌∙◌, sym}
use Rattle.form_table.specs.Walk.{given}
use Rattle.check_table.specs.ActionCode.{spot_of, next_of}
use Rattle.check_table.proofs.ActionLaws.{figures_small}
use native.Mathlib.Omega.{arith}
use Rattle.check_table.proofs.actions.tag_step.Goals as goal

pub overflow_add-n : goal.overflow_add-n
overflow_add-n c = omega (arith, figures_small _ _ c.figures.ensures)

pub returns-then-is_within : goal.returns-then-is_within
unfolding given spot_of next_of
returns-then-is_within c = c.at.ensures ∙ rw (c.figures.ensures, sym c.is_within.ensures ∙ c.if-is_within.true)

pub returns : goal.returns
unfolding given spot_of next_of
returns c = rw (sym c.is_within.ensures ∙ c.if-is_within.false)

use mathlib.Core.Path.{◌∙◌}
use mathlib.Core.Bool.{and-true, and-false}
use Rattle.form_table.specs.Walk.{given}
use Rattle.check_table.specs.ActionCode.{next_of}
use Rattle.check_table.proofs.actions.divide_step.Goals as goal

pub returns-then-cmd : goal.returns-then-cmd
unfolding given next_of
returns-then-cmd c = simp (c.if-cmd.true, and-false)

pub returns : goal.returns
returns c = c.number_step.ensures ∙ simp (c.if-cmd.false, and-true)

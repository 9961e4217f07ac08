use mathlib.Core.Path.{◌∙◌}
use Rattle.form_table.specs.Walk.{given}
use Rattle.check_table.specs.ActionCode.{spot_of, next_of}
use Rattle.check_table.proofs.actions.insert_step.Goals as goal

pub returns-then-cmd : goal.returns-then-cmd
unfolding given spot_of next_of
returns-then-cmd c = rw c.if-cmd.true

pub returns : goal.returns
unfolding given spot_of next_of
returns c = c.at.ensures ∙ rw c.if-cmd.false

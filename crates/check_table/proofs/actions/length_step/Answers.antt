use mathlib.Core.Path.{◌∙◌}
use Rattle.form_table.specs.Walk.{given}
use Rattle.check_table.specs.ActionCode.{next_of}
use Rattle.check_table.proofs.actions.length_step.Goals as goal

pub returns-then-c-o : goal.returns-then-c-o
unfolding given next_of
returns-then-c-o c = c.at.ensures ∙ rw (c.text_spot.ensures, c.if-c-o.true)

pub returns : goal.returns
unfolding given next_of
returns c = rw c.if-c-o.false

use mathlib.Core.Path.{◌∙◌}
use borrow.Author.Tests.{eq-eqb, ne_eqb}
use Rattle.form_table.specs.Walk.{given}
use Rattle.form_table.specs.ActionWalk.{action_step}
use Rattle.check_table.specs.ActionCode.{spot_of, state_of, next_of}
use Rattle.check_table.proofs.actions.item_step.Goals as goal

pub returns-then-c-eq42 : goal.returns-then-c-eq42
unfolding action_step spot_of state_of
returns-then-c-eq42 c = c.tag_step.ensures ∙ rw (c.in-TagDue.is, eq-eqb _ _ c.if-c-eq42.true)

pub returns-in-BehindAction : goal.returns-in-BehindAction
unfolding action_step spot_of state_of
returns-in-BehindAction c = c.begin_step.ensures ∙ rw c.in-BehindAction.is

pub returns-else-c-eq42 : goal.returns-else-c-eq42
unfolding given action_step spot_of state_of next_of
returns-else-c-eq42 c = rw (c.in-TagDue.is, ne_eqb _ _ c.if-c-eq42.false)

pub returns-in-LengthDue : goal.returns-in-LengthDue
unfolding action_step spot_of state_of
returns-in-LengthDue c = c.length_step.ensures ∙ rw c.in-LengthDue.is

pub returns-in-TextDue : goal.returns-in-TextDue
unfolding action_step spot_of state_of
returns-in-TextDue c = c.text_step.ensures ∙ rw c.in-TextDue.is

pub returns-in-LowDue : goal.returns-in-LowDue
unfolding action_step spot_of state_of
returns-in-LowDue c = c.low_step.ensures ∙ rw c.in-LowDue.is

pub returns-in-HighDue : goal.returns-in-HighDue
unfolding action_step spot_of state_of
returns-in-HighDue c = c.high_step.ensures ∙ rw c.in-HighDue.is

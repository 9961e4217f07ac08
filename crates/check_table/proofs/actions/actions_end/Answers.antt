use Rattle.form_table.specs.ActionWalk.{action_ends}
use Rattle.check_table.specs.ActionCode.{spot_of, state_of}
use Rattle.check_table.proofs.actions.actions_end.Goals as goal

pub returns-in-BehindAction : goal.returns-in-BehindAction
unfolding action_ends spot_of state_of
returns-in-BehindAction c = rw c.in-BehindAction.is

pub returns-in-TagDue : goal.returns-in-TagDue
unfolding action_ends spot_of state_of
returns-in-TagDue c = rw c.in-TagDue.is

pub returns-in-LengthDue : goal.returns-in-LengthDue
unfolding action_ends spot_of state_of
returns-in-LengthDue c = rw c.in-LengthDue.is

pub returns-in-TextDue : goal.returns-in-TextDue
unfolding action_ends spot_of state_of
returns-in-TextDue c = rw c.in-TextDue.is

pub returns-in-LowDue : goal.returns-in-LowDue
unfolding action_ends spot_of state_of
returns-in-LowDue c = rw c.in-LowDue.is

pub returns-in-HighDue : goal.returns-in-HighDue
unfolding action_ends spot_of state_of
returns-in-HighDue c = rw c.in-HighDue.is

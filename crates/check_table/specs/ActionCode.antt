-- The states of the code's walk over a replacement or commands, as the definitions have them.
use Rattle.std.proofs.Math.Option.{Option, none, some}
use Rattle.form_table.specs.ActionWalk as walks
use Rattle.form_table.specs.ActionWalk.ActionSpot.{behind_action, tag_due, length_due, text_due, low_due, high_due}
use Rattle.form_table.specs.ActionWalk.ActionState.{action_at}
use Rattle.check_table.specs.declared.actions.ActionSpot.{ActionSpot}
use Rattle.check_table.specs.declared.actions.ActionSpot.TheVariants.{BehindAction, TagDue, LengthDue, TextDue, LowDue, HighDue}
use Rattle.check_table.specs.declared.actions.ActionState.{ActionState}
use Rattle.std.specs.Prelude.{Option as Found, Some, None}

unfoldable pub spot_of : ActionSpot → walks.ActionSpot
spot_of (BehindAction a) = behind_action a
spot_of TagDue = tag_due
spot_of LengthDue = length_due
spot_of (TextDue q) = text_due q
spot_of (LowDue l) = low_due l
spot_of (HighDue l v) = high_due l v

unfoldable pub state_of : ActionState → walks.ActionState
state_of s = action_at s.spelled (spot_of s.spot)

unfoldable pub next_of : Found ActionState → Option walks.ActionState
next_of (Some s) = some (state_of s)
next_of None = none

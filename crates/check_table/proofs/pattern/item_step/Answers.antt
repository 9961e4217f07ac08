use mathlib.Core.Path.{◌∙◌}
use Rattle.form_table.specs.PatternWalk.{pattern_step}
use Rattle.check_table.specs.PatternCode.{spot_of, state_of}
use Rattle.check_table.proofs.pattern.item_step.Goals as goal

pub returns-in-BehindPiece : goal.returns-in-BehindPiece
unfolding pattern_step spot_of state_of
returns-in-BehindPiece c = c.piece_step.ensures ∙ rw c.in-BehindPiece.is

pub returns-in-InClass : goal.returns-in-InClass
unfolding pattern_step spot_of state_of
returns-in-InClass c = c.member_step.ensures ∙ rw c.in-InClass.is

pub returns-in-InRange : goal.returns-in-InRange
unfolding pattern_step spot_of state_of
returns-in-InRange c = c.range_step.ensures ∙ rw c.in-InRange.is

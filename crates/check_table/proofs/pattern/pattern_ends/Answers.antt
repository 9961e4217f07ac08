use Rattle.form_table.specs.PatternWalk.{pattern_ends}
use Rattle.check_table.specs.PatternCode.{spot_of, state_of}
use Rattle.check_table.proofs.pattern.pattern_ends.Goals as goal

pub returns-in-BehindPiece : goal.returns-in-BehindPiece
unfolding pattern_ends spot_of state_of
returns-in-BehindPiece c = rw c.in-BehindPiece.is

pub returns-in-InClass : goal.returns-in-InClass
unfolding pattern_ends spot_of state_of
returns-in-InClass c = rw c.in-InClass.is

pub returns-in-InRange : goal.returns-in-InRange
unfolding pattern_ends spot_of state_of
returns-in-InRange c = rw c.in-InRange.is

use Rattle.macros.specs.Read.{kind_digit}
use Rattle.form_table.specs.PatternWalk.{joins_at}
use Rattle.check_table.specs.PatternCode.{joint_of}
use mathlib.Core.Path.{◌∙◌}
use Rattle.check_table.proofs.pattern.joins_at.Goals as goal

pub returns-in-Loose : goal.returns-in-Loose
unfolding kind_digit joins_at joint_of
returns-in-Loose c = rw c.in-Loose.is

pub returns-in-AfterStar : goal.returns-in-AfterStar
unfolding kind_digit joins_at joint_of
returns-in-AfterStar c = rw c.in-AfterStar.is

pub returns-in-AfterQuery : goal.returns-in-AfterQuery
unfolding kind_digit joins_at joint_of
returns-in-AfterQuery c = c.is_within.ensures ∙ rw c.in-AfterQuery.is

pub returns-in-AfterMark : goal.returns-in-AfterMark
unfolding kind_digit joins_at joint_of
returns-in-AfterMark c = rw c.in-AfterMark.is

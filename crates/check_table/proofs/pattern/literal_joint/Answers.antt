use borrow.Author.Tests.{ne_eqb}
use Rattle.macros.specs.Macro.{pick}
use Rattle.form_table.specs.PatternWalk.{literal_joint}
use Rattle.check_table.specs.PatternCode.{joint_of}
use Rattle.check_table.proofs.pattern.literal_joint.Goals as goal

pub returns-in-63 : goal.returns-in-63
unfolding pick literal_joint joint_of
returns-in-63 c = rw c.in-63.is

pub returns-in-38 : goal.returns-in-38
unfolding pick literal_joint joint_of
returns-in-38 c = rw c.in-38.is

pub returns-in-35 : goal.returns-in-35
unfolding pick literal_joint joint_of
returns-in-35 c = rw c.in-35.is

pub returns-in_default : goal.returns-in_default
unfolding pick literal_joint joint_of
returns-in_default c = simp (ne_eqb _ _ c.in_default.in_default-own.rest.0.0.1, ne_eqb _ _ c.in_default.in_default-own.rest.0.1, ne_eqb _ _ c.in_default.in_default-own.rest.1)

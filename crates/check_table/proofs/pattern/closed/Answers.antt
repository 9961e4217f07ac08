use borrow.Author.Tests.{ne_eqb}
use Rattle.macros.specs.Macro.{pick}
use Rattle.check_table.specs.PatternCode.{closed_joint, joint_of}
use Rattle.check_table.proofs.pattern.closed.Goals as goal

pub returns-in-0 : goal.returns-in-0
unfolding pick closed_joint joint_of
returns-in-0 c = rw c.in-0.is

pub returns-in-1 : goal.returns-in-1
unfolding pick closed_joint joint_of
returns-in-1 c = rw c.in-1.is

pub returns-in_default : goal.returns-in_default
unfolding pick closed_joint joint_of
returns-in_default c = simp (ne_eqb _ _ c.in_default.in_default-own.rest.0.1, ne_eqb _ _ c.in_default.in_default-own.rest.1)

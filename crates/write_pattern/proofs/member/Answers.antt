use native.Mathlib.Omega.{arith}
use borrow.Author.Tests.{ne_eqb}
use Rattle.macros.specs.Macro.{pick}
use Rattle.macros.specs.Write.{class_marks}
use Rattle.write_put.specs.Puts.{short_text}
use Rattle.write_put.proofs.Putting.{by_mark}
use Rattle.write_pattern.specs.Items.{member_text}
use Rattle.write_pattern.proofs.member.Goals as goal

pub returns-in-32 : goal.returns-in-32
unfolding member_text class_marks pick
returns-in-32 c = rw c.in-32.is (by_mark _ _ c.marked.ensures c.is_class_mark.ensures)

pub returns-in-33 : goal.returns-in-33
unfolding short_text member_text pick
returns-in-33 c = rw c.in-33.is

pub returns-in-34 : goal.returns-in-34
unfolding short_text member_text pick
returns-in-34 c = rw c.in-34.is

pub returns-in_default : goal.returns-in_default
unfolding short_text member_text pick
returns-in_default c = simp (ne_eqb (c.args.code) 32 (omega arith), ne_eqb (c.args.code) 33 (omega arith), ne_eqb (c.args.code) 34 (omega arith))

use Prim.Native.Nat.{◌%◌}
use native.Mathlib.Omega.{arith}
use borrow.Author.Tests.{ne_eqb}
use Rattle.macros.specs.Macro.{pick}
use Rattle.write_put.specs.Puts.{short_text}
use Rattle.write_actions.specs.Items.{name_text}
use Rattle.write_actions.proofs.name.Goals as goal

pub returns-in-0 : goal.returns-in-0
unfolding short_text name_text pick
returns-in-0 c = rw c.in-0.is

pub returns-in-1 : goal.returns-in-1
unfolding short_text name_text pick
returns-in-1 c = rw c.in-1.is

pub returns-in-2 : goal.returns-in-2
unfolding short_text name_text pick
returns-in-2 c = rw c.in-2.is

pub returns-in-3 : goal.returns-in-3
unfolding short_text name_text pick
returns-in-3 c = rw c.in-3.is

pub returns-in_default : goal.returns-in_default
unfolding short_text name_text pick
returns-in_default c = simp (ne_eqb (c.args.code % 8) 0 (omega arith), ne_eqb (c.args.code % 8) 1 (omega arith), ne_eqb (c.args.code % 8) 2 (omega arith), ne_eqb (c.args.code % 8) 3 (omega arith))

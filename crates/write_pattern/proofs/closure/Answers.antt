use Prim.Native.Nat.{◌%◌}
use native.Mathlib.Omega.{arith}
use borrow.Author.Tests.{ne_eqb}
use Rattle.macros.specs.Macro.{pick}
use Rattle.write_put.specs.Puts.{short_text}
use Rattle.write_pattern.specs.Items.{closure_text}
use Rattle.write_pattern.proofs.closure.Goals as goal

pub returns-in-1 : goal.returns-in-1
unfolding short_text closure_text pick
returns-in-1 c = rw c.in-1.is

pub returns-in-2 : goal.returns-in-2
unfolding short_text closure_text pick
returns-in-2 c = rw c.in-2.is

pub returns-in_default : goal.returns-in_default
unfolding short_text closure_text pick
returns-in_default c = simp (ne_eqb (c.args.code % 4) 1 (omega arith), ne_eqb (c.args.code % 4) 2 (omega arith))

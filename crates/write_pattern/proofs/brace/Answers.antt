use native.Mathlib.Omega.{arith}
use borrow.Author.Tests.{ne_eqb}
use Rattle.macros.specs.Macro.{pick}
use Rattle.write_pattern.specs.Items.{brace_byte}
use Rattle.write_pattern.proofs.brace.Goals as goal

pub returns-in-1 : goal.returns-in-1
unfolding brace_byte pick
returns-in-1 c = rw c.in-1.is

pub returns-in-2 : goal.returns-in-2
unfolding brace_byte pick
returns-in-2 c = rw c.in-2.is

pub returns-in-3 : goal.returns-in-3
unfolding brace_byte pick
returns-in-3 c = rw c.in-3.is

pub returns-in_default : goal.returns-in_default
unfolding brace_byte pick
returns-in_default c = simp (ne_eqb (c.args.code) 1 (omega arith), ne_eqb (c.args.code) 2 (omega arith), ne_eqb (c.args.code) 3 (omega arith))

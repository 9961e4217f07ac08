use native.Mathlib.Omega.{arith}
use borrow.Author.Tests.{lt-ltb, le-ltb}
use Rattle.macros.specs.Macro.{pick}
use Rattle.write_actions.specs.Items.{call_byte}
use Rattle.write_actions.proofs.call_byte.Goals as goal

pub returns-in-0-to-55 : goal.returns-in-0-to-55
unfolding call_byte pick
returns-in-0-to-55 c = simp (lt-ltb c.args.code 56 (omega arith))

pub returns-in-56-to-63 : goal.returns-in-56-to-63
unfolding call_byte pick
returns-in-56-to-63 c = simp (le-ltb c.args.code 56 (omega arith), lt-ltb c.args.code 64 (omega arith))

pub returns-in-64-to-87 : goal.returns-in-64-to-87
unfolding call_byte pick
returns-in-64-to-87 c = simp (le-ltb c.args.code 56 (omega arith), le-ltb c.args.code 64 (omega arith), lt-ltb c.args.code 88 (omega arith))

pub returns-in_default : goal.returns-in_default
unfolding call_byte pick
returns-in_default c = simp (le-ltb c.args.code 56 (omega arith), le-ltb c.args.code 64 (omega arith), le-ltb c.args.code 88 (omega arith))

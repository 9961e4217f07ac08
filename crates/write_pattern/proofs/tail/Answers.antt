use native.Mathlib.Omega.{arith}
use borrow.Author.Tests.{lt-ltb, le-ltb}
use Rattle.macros.specs.Macro.{pick}
use Rattle.write_put.specs.Puts.{short_text}
use Rattle.write_pattern.specs.Items.{tail_text}
use Rattle.write_pattern.proofs.tail.Goals as goal

pub returns-in-0-to-7 : goal.returns-in-0-to-7
unfolding short_text tail_text pick
returns-in-0-to-7 c = simp (lt-ltb c.args.code 8 (omega arith))

pub returns-in-8-to-23 : goal.returns-in-8-to-23
unfolding tail_text pick
returns-in-8-to-23 c = simp (le-ltb c.args.code 8 (omega arith), lt-ltb c.args.code 24 (omega arith)) c.closure.ensures

pub returns-in-24-to-34 : goal.returns-in-24-to-34
unfolding short_text tail_text pick
returns-in-24-to-34 c = simp (le-ltb c.args.code 8 (omega arith), le-ltb c.args.code 24 (omega arith), lt-ltb c.args.code 35 (omega arith))

pub returns-in_default : goal.returns-in_default
unfolding tail_text pick
returns-in_default c = simp (le-ltb c.args.code 8 (omega arith), le-ltb c.args.code 24 (omega arith), le-ltb c.args.code 35 (omega arith)) c.closure-in_default.ensures

use native.Mathlib.Omega.{arith}
use borrow.Author.Tests.{lt-ltb, le-ltb}
use Rattle.macros.specs.Macro.{pick}
use Rattle.write_put.specs.Puts.{short_text}
use Rattle.write_actions.specs.Items.{last_text}
use Rattle.write_actions.proofs.last.Goals as goal

pub returns-in-0-to-71 : goal.returns-in-0-to-71
unfolding last_text pick
returns-in-0-to-71 c = simp (lt-ltb c.args.code 72 (omega arith)) c.name.ensures

pub returns-in-72-to-79 : goal.returns-in-72-to-79
unfolding short_text last_text pick
returns-in-72-to-79 c = simp (le-ltb c.args.code 72 (omega arith), lt-ltb c.args.code 80 (omega arith))

pub returns-in_default : goal.returns-in_default
unfolding short_text last_text pick
returns-in_default c = simp (le-ltb c.args.code 72 (omega arith), le-ltb c.args.code 80 (omega arith))

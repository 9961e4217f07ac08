use native.Mathlib.Omega.{arith}
use borrow.Author.Tests.{lt-ltb, le-ltb}
use Rattle.macros.specs.Macro.{pick}
use Rattle.macros.specs.Write.{pattern_marks}
use Rattle.write_put.specs.Puts.{short_text}
use Rattle.write_put.proofs.Putting.{by_mark}
use Rattle.write_pattern.specs.Items.{unit_text}
use Rattle.write_pattern.proofs.unit.Goals as goal

pub returns-in-0-to-11 : goal.returns-in-0-to-11
unfolding unit_text pattern_marks pick
returns-in-0-to-11 c = simp (lt-ltb c.args.code 12 (omega arith)) (by_mark _ _ c.marked.ensures c.is_pattern_mark.ensures)

pub returns-in-12-to-15 : goal.returns-in-12-to-15
unfolding short_text unit_text pick
returns-in-12-to-15 c = simp (le-ltb c.args.code 12 (omega arith), lt-ltb c.args.code 16 (omega arith))

pub returns-in-16-to-19 : goal.returns-in-16-to-19
unfolding short_text unit_text pick
returns-in-16-to-19 c = simp (le-ltb c.args.code 12 (omega arith), le-ltb c.args.code 16 (omega arith), lt-ltb c.args.code 20 (omega arith))

pub returns-in_default : goal.returns-in_default
unfolding short_text unit_text pick
returns-in_default c = simp (le-ltb c.args.code 12 (omega arith), le-ltb c.args.code 16 (omega arith), le-ltb c.args.code 20 (omega arith))

use native.Mathlib.Omega.{arith}
use borrow.Author.Tests.{ne_eqb}
use Rattle.macros.specs.Macro.{pick}
use Rattle.write_put.specs.Puts.{short_text}
use Rattle.write_actions.specs.Items.{end_text}
use Rattle.write_actions.proofs.ending.Goals as goal

pub returns-in-40 : goal.returns-in-40
unfolding short_text end_text pick
returns-in-40 c = rw c.in-40.is

pub returns-in-41 : goal.returns-in-41
unfolding end_text pick
returns-in-41 c = rw c.in-41.is c.decimal.ensures

pub returns-in_default : goal.returns-in_default
unfolding end_text pick
returns-in_default c = simp (ne_eqb (c.args.code) 40 (omega arith), ne_eqb (c.args.code) 41 (omega arith)) c.name.ensures

use borrow.Author.Tests.{le-ltb, lt-ltb}
use native.Mathlib.Omega.{arith}
use Rattle.macros.specs.Macro.{pick}
use Rattle.form_table.specs.ActionWalk.{figures}
use Rattle.check_table.proofs.actions.figures.Goals as goal

pub returns-in-0-to-9 : goal.returns-in-0-to-9
unfolding pick figures
returns-in-0-to-9 c = simp (lt-ltb c.args.n 10 (omega arith))

pub returns-in-10-to-99 : goal.returns-in-10-to-99
unfolding pick figures
returns-in-10-to-99 c = simp (le-ltb c.args.n 10 (omega arith), lt-ltb c.args.n 100 (omega arith))

pub returns-in-100-to-999 : goal.returns-in-100-to-999
unfolding pick figures
returns-in-100-to-999 c = simp (le-ltb c.args.n 10 (omega arith), le-ltb c.args.n 100 (omega arith), lt-ltb c.args.n 1000 (omega arith))

pub returns-in-1000-to-9999 : goal.returns-in-1000-to-9999
unfolding pick figures
returns-in-1000-to-9999 c = simp (le-ltb c.args.n 10 (omega arith), le-ltb c.args.n 100 (omega arith), le-ltb c.args.n 1000 (omega arith), lt-ltb c.args.n 10000 (omega arith))

pub returns-in-10000-to-99999 : goal.returns-in-10000-to-99999
unfolding pick figures
returns-in-10000-to-99999 c = simp (le-ltb c.args.n 10 (omega arith), le-ltb c.args.n 100 (omega arith), le-ltb c.args.n 1000 (omega arith), le-ltb c.args.n 10000 (omega arith), lt-ltb c.args.n 100000 (omega arith))

pub returns-in-100000-to-999999 : goal.returns-in-100000-to-999999
unfolding pick figures
returns-in-100000-to-999999 c = simp (le-ltb c.args.n 10 (omega arith), le-ltb c.args.n 100 (omega arith), le-ltb c.args.n 1000 (omega arith), le-ltb c.args.n 10000 (omega arith), le-ltb c.args.n 100000 (omega arith), lt-ltb c.args.n 1000000 (omega arith))

pub returns-in-1000000-to-9999999 : goal.returns-in-1000000-to-9999999
unfolding pick figures
returns-in-1000000-to-9999999 c = simp (le-ltb c.args.n 10 (omega arith), le-ltb c.args.n 100 (omega arith), le-ltb c.args.n 1000 (omega arith), le-ltb c.args.n 10000 (omega arith), le-ltb c.args.n 100000 (omega arith), le-ltb c.args.n 1000000 (omega arith), lt-ltb c.args.n 10000000 (omega arith))

pub returns-in-10000000-to-99999999 : goal.returns-in-10000000-to-99999999
unfolding pick figures
returns-in-10000000-to-99999999 c = simp (le-ltb c.args.n 10 (omega arith), le-ltb c.args.n 100 (omega arith), le-ltb c.args.n 1000 (omega arith), le-ltb c.args.n 10000 (omega arith), le-ltb c.args.n 100000 (omega arith), le-ltb c.args.n 1000000 (omega arith), le-ltb c.args.n 10000000 (omega arith), lt-ltb c.args.n 100000000 (omega arith))

pub returns-in_default : goal.returns-in_default
unfolding pick figures
returns-in_default c = simp (le-ltb c.args.n 10 (omega arith), le-ltb c.args.n 100 (omega arith), le-ltb c.args.n 1000 (omega arith), le-ltb c.args.n 10000 (omega arith), le-ltb c.args.n 100000 (omega arith), le-ltb c.args.n 1000000 (omega arith), le-ltb c.args.n 10000000 (omega arith), le-ltb c.args.n 100000000 (omega arith))

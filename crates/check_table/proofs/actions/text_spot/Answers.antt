use borrow.Author.Tests.{eq-eqb, ne_eqb}
use Rattle.macros.specs.Macro.{pick}
use Rattle.form_table.specs.ActionWalk.{text_spot}
use Rattle.check_table.specs.ActionCode.{spot_of}
use native.Mathlib.Omega.{arith}
use Rattle.check_table.proofs.actions.text_spot.Goals as goal

pub returns-then-q-lt1 : goal.returns-then-q-lt1
unfolding pick text_spot spot_of
returns-then-q-lt1 c = rw (eq-eqb c.args.q 0 (omega arith))

pub returns : goal.returns
unfolding pick text_spot spot_of
returns c = rw (ne_eqb c.args.q 0 (λ e. omega arith))

use mathlib.Core.Path.{◌∙◌}
use borrow.Author.Tests.{eq-eqb, ne_eqb}
use Rattle.form_table.specs.Walk.{given}
use Rattle.check_table.specs.ActionCode.{spot_of, next_of}
use native.Mathlib.Omega.{arith}
use Rattle.check_table.proofs.actions.number_step.Goals as goal

pub returns-then-m-lt1 : goal.returns-then-m-lt1
unfolding given spot_of next_of
returns-then-m-lt1 c = c.at.ensures ∙ rw (eq-eqb c.args.m 0 (omega arith))

pub returns : goal.returns
unfolding given spot_of next_of
returns c = rw (ne_eqb c.args.m 0 (λ e. omega arith))

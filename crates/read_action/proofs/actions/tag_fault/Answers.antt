use mathlib.Core.Logic.{⊎_elim}
use mathlib.Core.Path.{refl}
use native.Mathlib.Omega.{arith}
use borrow.Author.Tests.{ne_eqb}
use Rattle.macros.specs.Macro.{pick}
use Rattle.read_action.specs.Action.{wrong_tag}
use Rattle.read_action.proofs.actions.tag_fault.Goals as goal

pub returns-in-59 : goal.returns-in-59
unfolding wrong_tag pick
returns-in-59 c = ⊎_elim (λ e. rw e refl) (λ e. rw e refl) c.in-59.is

pub returns-in_default : goal.returns-in_default
unfolding wrong_tag pick
returns-in_default c = simp (ne_eqb c.args.b 59 (λ e. grind (arith, e)), ne_eqb c.args.b 10 (λ e. grind (arith, e)))

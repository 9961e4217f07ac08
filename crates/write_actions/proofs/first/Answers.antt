use Prim.Native.Nat.{ℕ}
use mathlib.Core.List.{[], ◌∷◌}
use mathlib.Core.Path.{ap}
use native.Mathlib.Omega.{arith}
use borrow.Author.Tests.{lt-ltb, le-ltb}
use Rattle.macros.specs.Macro.{pick}
use Rattle.write_put.specs.Puts.{short_text}
use Rattle.write_actions.specs.Items.{first_text}
use Rattle.write_actions.proofs.first.Goals as goal

pub returns-in-0-to-71 : goal.returns-in-0-to-71
unfolding first_text pick
returns-in-0-to-71 c = simp (lt-ltb c.args.code 72 (omega arith)) c.decimal.ensures

pub returns-in-72-to-79 : goal.returns-in-72-to-79
unfolding first_text pick
returns-in-72-to-79 c = simp (le-ltb c.args.code 72 (omega arith), lt-ltb c.args.code 80 (omega arith)) c.name.ensures

pub returns-in_default : goal.returns-in_default
unfolding short_text first_text pick
returns-in_default c = simp (le-ltb c.args.code 72 (omega arith), le-ltb c.args.code 80 (omega arith)) (ap (λ (x : ℕ). c.args.letter ∷ x ∷ []) c.number_sign.ensures)

use Prim.Native.Nat.{ℕ}
use mathlib.Core.Bool.{Bool, true, false}
use mathlib.Core.List.{[], ◌∷◌}
use mathlib.Core.Path.{◌≡◌, refl, ap, ◌∙◌}
use native.Mathlib.Omega.{arith}
use lib.Dec.{ltb}
use lib.ListN.{length}
use borrow.Author.Tests.{lt-ltb, le-ltb}
use Rattle.macros.specs.Macro.{pick}
use Rattle.macros.specs.Write.{byte}
use Rattle.write_pattern.specs.Items.{unit_text}
use Rattle.write_pattern.proofs.unit_size.Goals as goal

-- a call of a stack or of a counter
calls : (t : Bool) (b : ℕ) → 4 ≡ length (pick t (38 ∷ 40 ∷ b ∷ 41 ∷ []) (35 ∷ 40 ∷ b ∷ 41 ∷ []))
unfolding pick
calls true b = refl
calls false b = refl

pub returns-in-0-to-11 : goal.returns-in-0-to-11
unfolding unit_text pick
returns-in-0-to-11 c = (simp (lt-ltb c.args.code 12 (omega arith)) (c.marked_size.ensures.0 ∙ ap (λ (w : Bool). length (byte w c.args.b)) c.is_pattern_mark.ensures), c.marked_size.ensures.1)

pub returns-in-12-to-15 : goal.returns-in-12-to-15
unfolding unit_text pick
returns-in-12-to-15 c = (simp (le-ltb c.args.code 12 (omega arith), lt-ltb c.args.code 16 (omega arith)) refl, omega arith)

pub returns-in_default : goal.returns-in_default
unfolding unit_text pick
returns-in_default c = (simp (le-ltb c.args.code 12 (omega arith), le-ltb c.args.code 16 (omega arith)) (calls (ltb c.args.code 20) c.args.b), omega arith)

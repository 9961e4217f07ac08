use Prim.Native.Nat.{ℕ}
use mathlib.Core.Bool.{Bool, true, false}
use mathlib.Core.List.{[], ◌∷◌}
use mathlib.Core.Path.{◌≡◌, refl, ap, ◌∙◌}
use native.Mathlib.Omega.{arith}
use lib.Dec.{eqb}
use lib.ListN.{length}
use borrow.Author.Tests.{ne_eqb}
use Rattle.macros.specs.Macro.{pick}
use Rattle.macros.specs.Write.{byte}
use Rattle.write_pattern.specs.Items.{member_text}
use Rattle.write_pattern.proofs.member_size.Goals as goal

-- the end of a range, or the class's end
one_byte : (t : Bool) (b : ℕ) → 1 ≡ length (pick t (b ∷ []) (93 ∷ []))
unfolding pick
one_byte true b = refl
one_byte false b = refl

pub returns-in-32 : goal.returns-in-32
unfolding member_text pick
returns-in-32 c = (rw c.in-32.is (c.marked_size.ensures.0 ∙ ap (λ (w : Bool). length (byte w c.args.b)) c.is_class_mark.ensures), c.marked_size.ensures.1)

pub returns-in-33 : goal.returns-in-33
unfolding member_text pick
returns-in-33 c = (rw c.in-33.is refl, omega arith)

pub returns-in_default : goal.returns-in_default
unfolding member_text pick
returns-in_default c = (simp (ne_eqb (c.args.code) 32 (omega arith), ne_eqb (c.args.code) 33 (omega arith)) (one_byte (eqb c.args.code 34) c.args.b), omega arith)

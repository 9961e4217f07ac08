-- What the code of a call is of, and the value of a counter.
use Prim.Native.Nat.{ℕ, ◌≤◌}
use mathlib.Core.Path.{◌≡◌, refl}
use mathlib.Core.Bool.{Bool, true, false, ◌&&◌}
use lib.Dec.{leb}
use borrow.Author.Tests.{leb-true, le-leb}
use mathlib.Core.List.{List}
use native.Mathlib.Omega.{arith}
use Rattle.macros.specs.Bounds.{most_counter}
use Rattle.macros.specs.Macro.{pick, within}
use Rattle.macros.specs.Macro.Mark.{stack, counter}
use Rattle.lines.specs.State.{counter_of}
use Rattle.lines.proofs.KeepState.{counter_in_range}
use Rattle.form_state.specs.Access.{IsState, OfState}
use Rattle.pass_steps.specs.Codes.{mark_in}

-- a code of several, and another
pub within_in : (a z c : ℕ) → a ≤ c → c ≤ z → within a z c ≡ true
unfolding within
within_in a z c h l = rw (le-leb a c h, le-leb c z l)

pub within_out : (a z c : ℕ) → (a ≤ c → c ≤ z → ⊥) → within a z c ≡ false
unfolding within
within_out a z c f = by (leb a c) (leb c z) refl refl
  where
    by : (x y : Bool) → leb a c ≡ x → leb c z ≡ y → (x && y) ≡ false
    by true true d e = absurd (f (leb-true a c d) (leb-true c z e))
    by true false d e = refl
    by false y d e = refl

-- what a code is of
pub mark_counter : (c : ℕ) → 56 ≤ c → c ≤ 63 → counter ≡ mark_in c
unfolding mark_in pick
mark_counter c h l = rw (within_in 56 63 c h l)

pub mark_stack : (c : ℕ) → (56 ≤ c → c ≤ 63 → ⊥) → stack ≡ mark_in c
unfolding mark_in pick
mark_stack c f = rw (within_out 56 63 c f)

pub value_small : (b : List ℕ) (i : ℕ) → IsState b → {n : ℕ} → OfState b (λ st. n ≡ (counter_of st i).value) → n ≤ most_counter
value_small b i s p = let e = p s.0 s.1 in let r = (counter_in_range s.0 i s.1.in_range).value in omega arith

-- How many digits a number has.
use mathlib.Core.Path.{◌≡◌, refl}
use mathlib.Core.Bool.{Bool, true, false}
use Prim.Native.Nat.{ℕ, zero, suc, ◌*◌, ◌/◌, ◌≤◌, ◌<◌}
use native.Mathlib.Omega.{arith}
use lib.Dec.{ltb}
use lib.ListN.{length, length-append}
use borrow.Author.Tests.{ltb-true, ltb-false, lt-ltb, le-ltb}
use Rattle.macros.specs.Macro.{pick}
use Rattle.macros.specs.Write.{digits_by, digits}
use Rattle.form_table.specs.ActionWalk.{figures}

pick_by : {A : Type 0} (x : Bool) {a b c : A} → (x ≡ true → c ≡ a) → (x ≡ false → c ≡ b) → c ≡ pick x a b
unfolding pick
pick_by true f g = f refl
pick_by false f g = g refl

-- numbers from a up to z, z not included, have j digits
Have : ℕ → ℕ → ℕ → Type 0
Have a z j = (k n : ℕ) → a ≤ n → n < z → n ≤ k → length (digits_by k n) ≡ j

one_digit : Have 0 10 1
unfolding Have digits_by pick
one_digit zero n h l g = refl
one_digit (suc k) n h l g = rw (lt-ltb n 10 l)

one_more : (a z j : ℕ) → 1 ≤ a → Have a z j → Have (10 * a) (10 * z) (suc j)
unfolding Have digits_by pick
one_more a z j p f zero n h l g = absurd (omega arith)
one_more a z j p f (suc k) n h l g =
    rw (le-ltb n 10 (omega arith)) (simp length-append (omega (arith, f k (n / 10) (omega arith) (omega arith) (omega arith))))

from_one : Have 1 10 1
unfolding Have
from_one k n h l g = one_digit k n (omega arith) l g

two : Have 10 100 2
two = one_more 1 10 1 (omega arith) from_one

three : Have 100 1000 3
three = one_more 10 100 2 (omega arith) two

four : Have 1000 10000 4
four = one_more 100 1000 3 (omega arith) three

five : Have 10000 100000 5
five = one_more 1000 10000 4 (omega arith) four

six : Have 100000 1000000 6
six = one_more 10000 100000 5 (omega arith) five

seven : Have 1000000 10000000 7
seven = one_more 100000 1000000 6 (omega arith) six

eight : Have 10000000 100000000 8
eight = one_more 1000000 10000000 7 (omega arith) seven

nine : Have 100000000 1000000000 9
nine = one_more 10000000 100000000 8 (omega arith) eight

pub digits_figures : (n : ℕ) → n ≤ 999999999 → length (digits n) ≡ figures n
unfolding figures digits Have
digits_figures n h =
    pick_by (ltb n 10) (λ t. one_digit n n (omega arith) (ltb-true n 10 t) (omega arith)) λ f₁.
    pick_by (ltb n 100) (λ t. two n n (ltb-false n 10 f₁) (ltb-true n 100 t) (omega arith)) λ f₂.
    pick_by (ltb n 1000) (λ t. three n n (ltb-false n 100 f₂) (ltb-true n 1000 t) (omega arith)) λ f₃.
    pick_by (ltb n 10000) (λ t. four n n (ltb-false n 1000 f₃) (ltb-true n 10000 t) (omega arith)) λ f₄.
    pick_by (ltb n 100000) (λ t. five n n (ltb-false n 10000 f₄) (ltb-true n 100000 t) (omega arith)) λ f₅.
    pick_by (ltb n 1000000) (λ t. six n n (ltb-false n 100000 f₅) (ltb-true n 1000000 t) (omega arith)) λ f₆.
    pick_by (ltb n 10000000) (λ t. seven n n (ltb-false n 1000000 f₆) (ltb-true n 10000000 t) (omega arith)) λ f₇.
    pick_by (ltb n 100000000) (λ t. eight n n (ltb-false n 10000000 f₇) (ltb-true n 100000000 t) (omega arith)) λ f₈.
    nine n n (ltb-false n 100000000 f₈) (omega arith) (omega arith)

-- The digits of a number, the last one by itself.
-- Assumes nothing.
use Prim.Native.Nat.{ℕ, zero, suc, ◌+◌, ◌/◌, ◌%◌, ◌≤◌, ◌<◌}
use mathlib.Core.Path.{◌≡◌, refl}
use mathlib.Core.Bool.{Bool, true, false}
use mathlib.Core.List.{List, [], ◌∷◌, ◌++◌}
use native.Mathlib.Omega.{arith}
use borrow.Author.Tests.{ltb-false, lt-ltb, le-ltb}
use lib.Dec.{ltb}
use Rattle.macros.specs.Macro.{pick}
use Rattle.macros.specs.Write.{digits, digits_by}

digits_fuel : (j k n : ℕ) → n ≤ j → n ≤ k → digits_by j n ≡ digits_by k n
unfolding digits_by pick
digits_fuel zero zero n h l = refl
digits_fuel zero (suc k) n h l = rw (lt-ltb n 10 (omega arith))
digits_fuel (suc j) zero n h l = rw (lt-ltb n 10 (omega arith))
digits_fuel (suc j) (suc k) n h l = by (ltb n 10) refl (λ x y. digits_fuel j k (n / 10) x y)
  where
    by : (p : Bool) → ltb n 10 ≡ p → (n / 10 ≤ j → n / 10 ≤ k → digits_by j (n / 10) ≡ digits_by k (n / 10))
        → pick p ((48 + n) ∷ []) (digits_by j (n / 10) ++ ((48 + n % 10) ∷ [])) ≡ pick p ((48 + n) ∷ []) (digits_by k (n / 10) ++ ((48 + n % 10) ∷ []))
    by true e ih = refl
    by false e ih = let g : 10 ≤ n = ltb-false n 10 e in rw (ih (omega arith) (omega arith))

pub digits_few : (n : ℕ) → n < 10 → digits n ≡ (48 + n) ∷ []
unfolding digits digits_by pick
digits_few zero h = refl
digits_few (suc n) h = rw (lt-ltb (suc n) 10 h)

pub digits_last : (n : ℕ) → 10 ≤ n → digits n ≡ digits (n / 10) ++ ((48 + n % 10) ∷ [])
unfolding digits digits_by pick
digits_last zero h = absurd (omega arith)
digits_last (suc n) h = rw (le-ltb (suc n) 10 h, digits_fuel n (suc n / 10) (suc n / 10) (omega arith) (omega arith))

pub digits_two : (n : ℕ) → 10 ≤ n → n / 10 < 10 → digits n ≡ (48 + n / 10) ∷ (48 + n % 10) ∷ []
digits_two n g h = rw (digits_last n g, digits_few (n / 10) h)

pub digits_three : (n : ℕ) → 10 ≤ n / 10 → n / 10 / 10 < 10 → digits n ≡ (48 + n / 10 / 10) ∷ (48 + (n / 10) % 10) ∷ (48 + n % 10) ∷ []
digits_three n g h = rw (digits_last n (omega arith), digits_two (n / 10) g h)

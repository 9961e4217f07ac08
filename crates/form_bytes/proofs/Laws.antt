-- The four bytes of a number, there and back, and stored.
-- Assumes nothing.
use mathlib.Core.Path.{◌≡◌}
use mathlib.Core.List.{List, [], ◌∷◌, ◌++◌}
use Prim.Native.Nat.{ℕ, ◌+◌, ◌*◌, ◌/◌, ◌%◌, ◌≤◌, ◌<◌}
use native.Mathlib.Omega.{arith}
use lib.ListN.{drop, take}
use lib.Seq.{drop-drop}
use borrow.Rule.Slice.PartMut.{put_mid}
use Rattle.form_bytes.specs.Fours.{four}

-- the number of its four bytes
pub four_there : (n : ℕ) → n % 256 + 256 * (n / 256 % 256) + 65536 * (n / 65536 % 256) + 16777216 * (n / 16777216) ≡ n
four_there n = omega arith

-- the four bytes that make a number
pub four_back : (a b c d : ℕ) → a ≤ 255 → b ≤ 255 → c ≤ 255 → four (a + 256 * b + 65536 * c + 16777216 * d) ≡ a ∷ b ∷ c ∷ d ∷ []
unfolding four
four_back a b c d h₁ h₂ h₃ =
    let n : ℕ = a + 256 * b + 65536 * c + 16777216 * d in
    let e₁ : n % 256 ≡ a = omega arith in
    let q₂ : n / 256 ≡ b + 256 * c + 65536 * d = omega arith in
    let e₂ : n / 256 % 256 ≡ b = rw q₂ (omega arith) in
    let q₃ : n / 65536 ≡ c + 256 * d = omega arith in
    let e₃ : n / 65536 % 256 ≡ c = rw q₃ (omega arith) in
    let e₄ : n / 16777216 ≡ d = omega arith in
    rw (e₁, e₂, e₃, e₄)

-- the four bytes, put in at a place
pub put_four : (out ys : List ℕ) (at k n : ℕ) → k ≡ 4 → n < 4294967296 → ys ≡ n % 256 ∷ n / 256 % 256 ∷ n / 65536 % 256 ∷ n / 16777216 % 256 ∷ []
    → put_mid at k out ys ≡ take at out ++ (four n ++ drop (at + 4) out)
unfolding four
put_four out ys at k n f h e = let last : n / 16777216 % 256 ≡ n / 16777216 = omega arith in rw (f, e, last, drop-drop 4 at out)

-- and those of an equal number
pub put_equal : (out ys : List ℕ) (at k m n : ℕ) → k ≡ 4 → ys ≡ m % 256 ∷ m / 256 % 256 ∷ m / 65536 % 256 ∷ m / 16777216 % 256 ∷ [] → m ≡ n → n < 4294967296
    → put_mid at k out ys ≡ take at out ++ (four n ++ drop (at + 4) out)
put_equal out ys at k m n f e g h = put_four out ys at k n f h (rw (← g) e)

-- Tests, ranges and lists of bytes.
use mathlib.Core.Path.{◌≡◌, refl}
use mathlib.Core.Bool.{Bool, true, false, ◌&&◌, ◌||◌}
use mathlib.Core.List.{List, [], ◌∷◌, ◌++◌}
use mathlib.Core.Option.{none, some}
use Prim.Native.Nat.{ℕ, zero, suc, ◌≤◌}
use native.Mathlib.Omega.{arith}
use lib.Dec.{leb}
use lib.ListN.{replicate, get_or, take, drop}
use borrow.Author.Tests.{leb-true, le-leb}
use Rattle.macros.specs.Macro.{pick, within, digit, ascii_upper, ascii_lower, is_range}
use Rattle.macros.specs.Formed.{Between, Octets}

-- TESTS

pub clash : {P : Type 0} {x : Bool} → x ≡ true → x ≡ false → P
clash e f = let z : ◌≡◌ {A = ℕ} 0 1 = cc in absurd (omega arith)

pub not_some : {A P : Type 0} {a : A} → none ≡ some a → P
not_some e = let z : ◌≡◌ {A = ℕ} 0 1 = cc in absurd (omega arith)

pub and_left : (x y : Bool) → (x && y) ≡ true → x ≡ true
and_left true y e = refl
and_left false y e = e

pub and_right : (x y : Bool) → (x && y) ≡ true → y ≡ true
and_right true y e = e
and_right false y e = clash e refl

pub and_both : {x y : Bool} → x ≡ true → y ≡ true → (x && y) ≡ true
and_both e f = rw (e, f)

-- a choice, by its test
pub picked : {A P : Type 0} (x : Bool) {a b c : A} → pick x a b ≡ c → (x ≡ true → a ≡ c → P) → (x ≡ false → b ≡ c → P) → P
unfolding pick
picked true e f g = f refl e
picked false e f g = g refl e

pub within_of : (a z b : ℕ) → a ≤ b → b ≤ z → within a z b ≡ true
unfolding within
within_of a z b h l = simp (le-leb _ _ h, le-leb _ _ l)

pub within_low : (a z b : ℕ) → within a z b ≡ true → a ≤ b
unfolding within
within_low a z b e = leb-true a b (and_left (leb a b) (leb b z) e)

pub within_high : (a z b : ℕ) → within a z b ≡ true → b ≤ z
unfolding within
within_high a z b e = leb-true b z (and_right (leb a b) (leb b z) e)

-- one of two tests
pub or_cases : {P : Type 0} (x y : Bool) → (x || y) ≡ true → (x ≡ true → P) → (y ≡ true → P) → P
or_cases true y e f g = f refl
or_cases false y e f g = g e

both_within : (l h a z : ℕ) → 1 ≤ l → h ≤ 255 → (within l h a && within l h z) ≡ true → Between 1 255 a × Between 1 255 z
both_within l h a z k j e =
    let f : within l h a ≡ true = and_left (within l h a) (within l h z) e in
    let g : within l h z ≡ true = and_right (within l h a) (within l h z) e in
    omega (arith, within_low l h a f, within_high l h a f, within_low l h z g, within_high l h z g)

-- a range's ends are letters or digits
pub range_bytes : (a z : ℕ) → is_range a z ≡ true → Between 1 255 a × Between 1 255 z
unfolding is_range digit ascii_upper ascii_lower
range_bytes a z e =
    or_cases (within 48 57 a && within 48 57 z) _ (and_left _ (leb a z) e) (both_within 48 57 a z (omega arith) (omega arith))
    λ f. or_cases (within 65 90 a && within 65 90 z) _ f (both_within 65 90 a z (omega arith) (omega arith)) (both_within 97 122 a z (omega arith) (omega arith))

-- BYTES

pub octets_append : (s t : List ℕ) → Octets s → Octets t → Octets (s ++ t)
octets_append [] t h g = g
octets_append (b ∷ s) t h g = (h.0, octets_append s t h.1 g)

pub octets_zeros : (n : ℕ) → Octets (replicate n 0)
octets_zeros zero = tt
octets_zeros (suc n) = (omega arith, octets_zeros n)

pub octets_drop : (n : ℕ) (s : List ℕ) → Octets s → Octets (drop n s)
octets_drop zero s h = h
octets_drop (suc n) [] h = tt
octets_drop (suc n) (b ∷ s) h = octets_drop n s h.1

pub octets_take : (n : ℕ) (s : List ℕ) → Octets s → Octets (take n s)
octets_take zero s h = tt
octets_take (suc n) [] h = tt
octets_take (suc n) (b ∷ s) h = (h.0, octets_take n s h.1)

pub octet_at : (s : List ℕ) (i : ℕ) → Octets s → get_or s i 0 ≤ 255
octet_at [] i h = omega arith
octet_at (b ∷ s) zero h = h.0
octet_at (b ∷ s) (suc i) h = octet_at s i h.1

-- Laws of the tests: `||`, `&&`, `among`, `within`, and what tells bytes apart.
use mathlib.Core.Path.{ap, refl, ◌≡◌}
use mathlib.Core.Bool.{◌&&◌, Bool, and-false, false, not, true, ◌||◌}
use mathlib.Core.List.{◌++◌, List, [], ◌∷◌}
use Prim.Native.Nat.{ℕ, ◌≤◌}
use native.Mathlib.Omega.{arith}
use lib.ListN.{length, length-append}
use lib.Dec.{eqb, leb}
use borrow.Author.Tests.{eqb-true, leb-true, not-true}
use Rattle.macros.specs.Macro.{among, digit, is_range, ascii_lower, ascii_upper, within}
use Rattle.macros.specs.Read.{breaks}

pub clash : {A : Type 0} {b : Bool} → b ≡ true → b ≡ false → A
clash e f = let z : ◌≡◌ {A = ℕ} 0 1 = cc in absurd (omega arith)

pub or_left : (a b : Bool) → (a || b) ≡ false → a ≡ false
or_left true b e = e
or_left false b e = refl

pub or_right : (a b : Bool) → (a || b) ≡ false → b ≡ false
or_right true b e = clash refl e
or_right false b e = e

pub or_cases : (p q r : Bool) → (p ≡ true → r ≡ true) → (q ≡ true → r ≡ true) → (p || q) ≡ true → r ≡ true
or_cases true q r f g e = f refl
or_cases false q r f g e = g e

pub and_left : (a b : Bool) → (a && b) ≡ true → a ≡ true
and_left true b e = refl
and_left false b e = e

pub and_right : (a b : Bool) → (a && b) ≡ true → b ≡ true
and_right true b e = e
and_right false b e = clash e refl

-- what holds only where the other holds already adds nothing
pub adds_nothing : (p q : Bool) → (q ≡ true → p ≡ true) → (p || q) ≡ p
adds_nothing true q f = refl
adds_nothing false true f = clash (f refl) refl
adds_nothing false false f = refl

-- LISTS OF BYTES

cons_same : (a b : ℕ) (v w : List ℕ) → v ≡ w → a ≡ b → a ∷ v ≡ b ∷ w
cons_same a b v w e f = cc

-- lists with the same last byte have the same bytes before it
pub same_start : (v w : List ℕ) (c : ℕ) → v ++ (c ∷ []) ≡ w ++ (c ∷ []) → v ≡ w
same_start [] [] c e = refl
same_start [] (b ∷ w) c e = let h = ap length e in absurd (omega (arith, h, length-append w (c ∷ [])))
same_start (a ∷ v) [] c e = let h = ap length e in absurd (omega (arith, h, length-append v (c ∷ [])))
same_start (a ∷ v) (b ∷ w) c e =
    let h : v ++ (c ∷ []) ≡ w ++ (c ∷ []) = cc in
    let f : a ≡ b = cc in
    cons_same a b v w (same_start v w c h) f

-- a byte that is not among some is none of them
pub absent : (l : List ℕ) (b c : ℕ) → among l b ≡ false → among l c ≡ true → eqb b c ≡ false
absent l b c e f = by (eqb b c) refl
  where
    by : (p : Bool) → eqb b c ≡ p → eqb b c ≡ false
    by true q = clash f (rw (eqb-true b c q) at e)
    by false q = q

-- a byte of which a test holds is none of which it does not
pub spares : (e : ℕ → Bool) (b c : ℕ) → e c ≡ false → e b ≡ true → eqb b c ≡ false
spares e b c f g = by (eqb b c) refl
  where
    by : (p : Bool) → eqb b c ≡ p → eqb b c ≡ false
    by true q = clash g (rw (eqb-true b c q) f)
    by false q = q

-- the test holds of none of the bytes
unfoldable pub spared : (ℕ → Bool) → List ℕ → Bool
spared f [] = true
spared f (x ∷ xs) = not (f x) && spared f xs

pub apart : (f : ℕ → Bool) (l : List ℕ) (b : ℕ) → f b ≡ true → spared f l ≡ true → among l b ≡ false
unfolding spared among
apart f [] b e s = refl
apart f (x ∷ xs) b e s = by (eqb b x) refl (apart f xs b e (and_right (not (f x)) (spared f xs) s))
  where
    by : (p : Bool) → eqb b x ≡ p → among xs b ≡ false → (p || among xs b) ≡ false
    by true q r = clash (rw (eqb-true b x q) at e) (not-true (f x) (and_left (not (f x)) (spared f xs) s))
    by false q r = r

-- a list of bytes that another holds
unfoldable pub holds : List ℕ → List ℕ → Bool
holds k [] = true
holds k (x ∷ l) = among k x && holds k l

pub among_more : (k l : List ℕ) (b : ℕ) → holds k l ≡ true → among l b ≡ true → among k b ≡ true
unfolding holds among
among_more k [] b h e = clash e refl
among_more k (x ∷ l) b h e = by (among k x) (eqb b x) refl refl h e (λ f g. among_more k l b f g)
  where
    by : (p q : Bool) → among k x ≡ p → eqb b x ≡ q → (p && holds k l) ≡ true → (q || among l b) ≡ true
        → (holds k l ≡ true → among l b ≡ true → among k b ≡ true) → among k b ≡ true
    by true true r q h e ih = rw (eqb-true b x q) r
    by true false r q h e ih = ih h e
    by false q r s h e ih = clash h refl

pub single_among : (k : List ℕ) (b c : ℕ) → among k c ≡ true → eqb b c ≡ true → among k b ≡ true
single_among k b c h e = rw (eqb-true b c e) h

pub no_break : (l : List ℕ) (b : ℕ) → among l b ≡ false → among l 39 ≡ true → among l 59 ≡ true → among l 10 ≡ true → breaks b ≡ false
unfolding breaks among
no_break l b m x y z = simp (absent l b 39 m x, absent l b 59 m y, absent l b 10 m z)

pub unbroken : (b : ℕ) → breaks b ≡ false → (eqb b 39 ≡ false) × (eqb b 59 ≡ false) × (eqb b 10 ≡ false)
unfolding breaks among
unbroken b f = let l : List ℕ = 39 ∷ 59 ∷ 10 ∷ [] in (absent l b 39 f refl, absent l b 59 f refl, absent l b 10 f refl)

-- RANGES

pub within_left : (a z b : ℕ) → within a z b ≡ true → a ≤ b
unfolding within
within_left a z b e = leb-true a b (and_left (leb a b) (leb b z) e)

pub within_right : (a z b : ℕ) → within a z b ≡ true → b ≤ z
unfolding within
within_right a z b e = leb-true b z (and_right (leb a b) (leb b z) e)

-- a range's ends are letters or digits
unfoldable pub alnum : ℕ → Bool
alnum b = digit b || (ascii_upper b || ascii_lower b)

left_of_lem : (a x b y c z : Bool) → (a && x || (b && y || c && z)) ≡ true → (a || (b || c)) ≡ true
left_of_lem true x b y c z e = refl
left_of_lem false x true y c z e = refl
left_of_lem false x false y true z e = refl
left_of_lem false x false y false z e = e

right_of : (a x b y c z : Bool) → (a && x || (b && y || c && z)) ≡ true → (x || (y || z)) ≡ true
right_of a true b y c z e = refl
right_of a false b true c z e = refl
right_of a false b false c true e = refl
right_of a false b false c false e = simp and-false at e

pub first_alnum : (a z : ℕ) → is_range a z ≡ true → alnum a ≡ true
unfolding is_range alnum
first_alnum a z e = left_of_lem (digit a) (digit z) (ascii_upper a) (ascii_upper z) (ascii_lower a) (ascii_lower z) (and_left _ (leb a z) e)

pub second_alnum : (a z : ℕ) → is_range a z ≡ true → alnum z ≡ true
unfolding is_range alnum
second_alnum a z e = right_of (digit a) (digit z) (ascii_upper a) (ascii_upper z) (ascii_lower a) (ascii_lower z) (and_left _ (leb a z) e)

-- One byte more to the test for zeros. Assumes nothing.
use Prim.Native.Nat.{ℕ, ◌+◌, ◌*◌, ◌-◌, ◌≤◌}
use mathlib.Core.Path.{◌≡◌, refl, sym, ap, ◌∙◌}
use mathlib.Core.Bool.{Bool, true, false, ◌&&◌}
use mathlib.Core.List.{List, [], ◌∷◌, ◌++◌, map}
use Rattle.std.specs.List.{zip}
use Rattle.std.proofs.lemmas.List.{map_push}
use native.Mathlib.Omega.{arith}
use native.Mathlib.Decide.{ℕ_discrete}
use borrow.Author.Tests.{ne_eqb}
use lib.Bits.{bit_or, or_add_and, and_le_l, and_le_r}
use lib.Dec.{eqb}
use lib.ListN.{length, take, drop, length-drop, take-append-drop}
use lib.Seq.{take_all, drop-drop, length-take-le}
use Rattle.form_bytes.specs.Zeros.{all_zero}

-- two numbers are zero exactly if their union is
both : (a b : ℕ) → Dec (a ≡ 0) → Dec (b ≡ 0) → eqb (bit_or a b) 0 ≡ eqb a 0 && eqb b 0
both a b (yes p) (yes q) = rw (p, q)
both a b (yes p) (no q) = rw (p, ne_eqb b 0 q)
both a b (no p) d = rw (ne_eqb a 0 p) (ne_eqb (bit_or a b) 0 (λ e. p (let z : a ≡ 0 = omega (arith, or_add_and a b, and_le_r a b, and_le_l a b) in z)))

and_swap : (a b c : Bool) → a && (b && c) ≡ (a && b) && c
and_swap true b c = refl
and_swap false b c = refl

more : (xs : List ℕ) (x : ℕ) → all_zero (xs ++ (x ∷ [])) ≡ all_zero xs && eqb x 0
unfolding all_zero
more [] x = last (eqb x 0)
  where
    last : (t : Bool) → t && true ≡ t
    last true = refl
    last false = refl
more (y ∷ ys) x = ap (λ (t : Bool). eqb y 0 && t) (more ys x) ∙ and_swap (eqb y 0) (all_zero ys) (eqb x 0)

-- one byte more to the union of those before it
pub zero_more : (s : List ℕ) (x a : ℕ) → eqb a 0 ≡ all_zero s → eqb (bit_or a x) 0 ≡ all_zero (s ++ (x ∷ []))
zero_more s x a e = both a x (ℕ_discrete a 0) (ℕ_discrete x 0) ∙ ap (λ (t : Bool). t && eqb x 0) e ∙ sym (more s x)

-- all that stands from the front on
pub from_front : (s : List ℕ) (n k : ℕ) → k ≡ 0 → length s ≤ n → all_zero (take n (drop k s)) ≡ all_zero s
from_front s n k e h = rw (e, take_all n s h) refl

-- FOUR PARTS

-- each byte of four parts is zero
abbrev pub four_zero : (a b c d : List ℕ) → Bool
four_zero a b c d = (all_zero a && all_zero b) && (all_zero c && all_zero d)

-- two pairs, the second ones exchanged
across : (x y u v : Bool) → (x && y) && (u && v) ≡ (x && u) && (y && v)
across true true u v = refl
across true false true v = refl
across true false false v = refl
across false y u v = refl

both_of : (a b : ℕ) → eqb (bit_or a b) 0 ≡ eqb a 0 && eqb b 0
both_of a b = both a b (ℕ_discrete a 0) (ℕ_discrete b 0)

-- the union of a byte of each part
abbrev pub union : (ℕ × ℕ) × (ℕ × ℕ) → ℕ
union p = bit_or (bit_or p.0.0 p.0.1) (bit_or p.1.0 p.1.1)

pub union_more : (l : List ((ℕ × ℕ) × (ℕ × ℕ))) (p : (ℕ × ℕ) × (ℕ × ℕ)) (a : ℕ) → eqb a 0 ≡ all_zero (map union l)
    → eqb (bit_or a (bit_or (bit_or p.0.0 p.0.1) (bit_or p.1.0 p.1.1))) 0 ≡ all_zero (map union (l ++ (p ∷ [])))
union_more l p a e = zero_more (map union l) (union p) a e ∙ ap all_zero (sym (map_push union l p))

none_zero : (l : List ℕ) → length l ≡ 0 → all_zero l ≡ true
unfolding all_zero
none_zero [] e = refl
none_zero (x ∷ l) e = absurd (omega arith)

-- the four parts side by side
pub four_all : (a b c d : List ℕ) → length b ≡ length a → length c ≡ length a → length d ≡ length a
    → all_zero (map union (zip (zip a b) (zip c d))) ≡ four_zero a b c d
unfolding all_zero
four_all [] b c d e f g = rw (none_zero b e, none_zero c f, none_zero d g) refl
four_all (w ∷ a) [] c d e f g = absurd (omega arith)
four_all (w ∷ a) (x ∷ b) [] d e f g = absurd (omega arith)
four_all (w ∷ a) (x ∷ b) (y ∷ c) [] e f g = absurd (omega arith)
four_all (w ∷ a) (x ∷ b) (y ∷ c) (z ∷ d) e f g =
    rw (
      both_of (bit_or w x) (bit_or y z),
      both_of w x,
      both_of y z,
      four_all a b c d (omega arith) (omega arith) (omega arith),
      across (eqb w 0 && eqb x 0) (eqb y 0 && eqb z 0) (all_zero a && all_zero b) (all_zero c && all_zero d),
      across (eqb w 0) (eqb x 0) (all_zero a) (all_zero b),
      across (eqb y 0) (eqb z 0) (all_zero c) (all_zero d),
    ) refl

-- A LIST IN PARTS

append_zero : (s t : List ℕ) → all_zero (s ++ t) ≡ all_zero s && all_zero t
unfolding all_zero
append_zero [] t = refl
append_zero (x ∷ s) t = ap (λ (z : Bool). eqb x 0 && z) (append_zero s t) ∙ and_swap (eqb x 0) (all_zero s) (all_zero t)

halves : (s : List ℕ) (n : ℕ) → all_zero (take n s) && all_zero (drop n s) ≡ all_zero s
halves s n = sym (append_zero (take n s) (drop n s)) ∙ ap all_zero (take-append-drop n s)

-- a part of q bytes, and what stands behind it
part : (s : List ℕ) (at end q : ℕ) → end ≡ at + q → all_zero (take (end - at) (drop at s)) && all_zero (drop end s) ≡ all_zero (drop at s)
part s at end q e =
    let f : end - at ≡ q = omega arith in
    rw (f, e, ← drop-drop q at s) (halves (drop at s) q)

quarter_size : (s : List ℕ) (at end q : ℕ) → end ≡ at + q → end ≤ length s → length (take (end - at) (drop at s)) ≡ length (take q s)
quarter_size s at end q e h =
    let f : end - at ≡ q = omega arith in
    rw f (length-take-le q (drop at s) (simp length-drop (omega arith))) ∙ sym (length-take-le q s (omega arith))

pub quarter_sizes : (s : List ℕ) (q : ℕ) → 4 * q ≤ length s
    → (length (take (2 * q - q) (drop q s)) ≡ length (take q s))
    × (length (take (3 * q - 2 * q) (drop (2 * q) s)) ≡ length (take q s))
    × (length (take (4 * q - 3 * q) (drop (3 * q) s)) ≡ length (take q s))
quarter_sizes s q h = (
  quarter_size s q (2 * q) q (omega arith) (omega arith),
  quarter_size s (2 * q) (3 * q) q (omega arith) (omega arith),
  quarter_size s (3 * q) (4 * q) q (omega arith) (omega arith),
)

regroup : (x y u v w : Bool) → ((x && y) && (u && v)) && w ≡ x && (y && (u && (v && w)))
regroup false y u v w = refl
regroup true false u v w = refl
regroup true true false v w = refl
regroup true true true v w = refl

-- what the code takes for the quarters of s and the rest
pub in_quarters : (s : List ℕ) (q : ℕ)
    → four_zero (take q s) (take (2 * q - q) (drop q s)) (take (3 * q - 2 * q) (drop (2 * q) s)) (take (4 * q - 3 * q) (drop (3 * q) s))
    && all_zero (take (length s - 4 * q) (drop (4 * q) s))
    ≡ all_zero s
in_quarters s q =
    regroup
    (all_zero (take q s))
    (all_zero (take (2 * q - q) (drop q s)))
    (all_zero (take (3 * q - 2 * q) (drop (2 * q) s)))
    (all_zero (take (4 * q - 3 * q) (drop (3 * q) s)))
    (all_zero (take (length s - 4 * q) (drop (4 * q) s)))
    ∙ rw (
      take_all (length s - 4 * q) (drop (4 * q) s) (simp length-drop (omega arith)),
      part s (3 * q) (4 * q) q (omega arith),
      part s (2 * q) (3 * q) q (omega arith),
      part s q (2 * q) q (omega arith),
    ) (halves s q)

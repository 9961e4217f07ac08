-- The marks: a new one changes no other.
-- Assumes nothing.
use Prim.Native.Nat.{ℕ, zero, suc, ◌+◌, ◌*◌, ◌/◌, ◌%◌, ◌^◌, ◌≤◌, ◌<◌}
use mathlib.Core.Path.{◌≡◌, refl, sym, ap, ◌∙◌}
use mathlib.Core.Bool.{Bool, true, false, false≢true, ◌&&◌, ◌||◌}
use mathlib.Core.Logic.{◌⊎◌, inl, inr}
use mathlib.Core.List.{List, [], ◌∷◌, ◌++◌}
use native.Mathlib.Omega.{arith}
use native.Mathlib.Decide.{ℕ_discrete}
use borrow.Author.Tests.{eqb-true, eqb-false, ne_eqb}
use lib.Dec.{eqb}
use lib.ListN.{length, get_or, set, drop, replicate, length-set}
use lib.Seq.{get_or-set_other, drop-set-lt}
use Rattle.pass_marks.specs.Marks.{byte_of, mark, marked_if, marked, cleared}

-- BITS

pub below8 : (P : ℕ → Type 0) → P 0 → P 1 → P 2 → P 3 → P 4 → P 5 → P 6 → P 7 → (s : ℕ) → s < 8 → P s
below8 P p0 p1 p2 p3 p4 p5 p6 p7 zero h = p0
below8 P p0 p1 p2 p3 p4 p5 p6 p7 (suc zero) h = p1
below8 P p0 p1 p2 p3 p4 p5 p6 p7 (suc (suc zero)) h = p2
below8 P p0 p1 p2 p3 p4 p5 p6 p7 (suc (suc (suc zero))) h = p3
below8 P p0 p1 p2 p3 p4 p5 p6 p7 (suc (suc (suc (suc zero)))) h = p4
below8 P p0 p1 p2 p3 p4 p5 p6 p7 (suc (suc (suc (suc (suc zero))))) h = p5
below8 P p0 p1 p2 p3 p4 p5 p6 p7 (suc (suc (suc (suc (suc (suc zero)))))) h = p6
below8 P p0 p1 p2 p3 p4 p5 p6 p7 (suc (suc (suc (suc (suc (suc (suc zero))))))) h = p7
below8 P p0 p1 p2 p3 p4 p5 p6 p7 (suc (suc (suc (suc (suc (suc (suc (suc s)))))))) h = absurd (omega arith)

-- the bit s as the code makes it
abbrev power : ℕ → ℕ
power s = (1 * 2 ^ s) % 256

power_is : (s : ℕ) → s < 8 → power s ≡ 2 ^ s
power_is = below8 (λ s. power s ≡ 2 ^ s) refl refl refl refl refl refl refl refl

abbrev pub Clear : ℕ → ℕ → Type 0
Clear x s = (x / 2 ^ s) % 2 ≡ 1 → ⊥

abbrev Fitting : ℕ → Type 0
Fitting s = (x : ℕ) → x ≤ 255 → Clear x s → x + 2 ^ s ≤ 255

fitting : (s : ℕ) → s < 8 → Fitting s
fitting = below8 Fitting (λ x l f. omega arith) (λ x l f. omega arith) (λ x l f. omega arith) (λ x l f. omega arith) (λ x l f. omega arith) (λ x l f. omega arith) (λ x l f. omega arith) (λ x l f. omega arith)

-- the low bits are those of the low byte
low_bit : (s : ℕ) → s < 8 → (x : ℕ) → (x / 2 ^ s) % 2 ≡ ((x % 256) / 2 ^ s) % 2
low_bit =
    below8 (λ s. (x : ℕ) → (x / 2 ^ s) % 2 ≡ ((x % 256) / 2 ^ s) % 2) (λ x. omega arith) (λ x. omega arith) (λ x. omega arith) (λ x. omega arith) (λ x. omega arith) (λ x. omega arith) (λ x. omega arith)
    (λ x. omega arith)

-- a test of every number below n
all_below : ℕ → (ℕ → Bool) → Bool
all_below zero f = true
all_below (suc n) f = f n && all_below n f

both : (x y : Bool) → (x && y) ≡ true → (x ≡ true) × (y ≡ true)
both true true e = (refl, refl)
both true false e = absurd (false≢true e)
both false y e = absurd (false≢true e)

below : (n : ℕ) (f : ℕ → Bool) → all_below n f ≡ true → (x : ℕ) → x < n → f x ≡ true
unfolding all_below
below zero f e x l = absurd (omega arith)
below (suc n) f e x l = go (ℕ_discrete x n) (below n f (both (f n) (all_below n f) e).1 x)
  where
    go : Dec (x ≡ n) → (x < n → f x ≡ true) → f x ≡ true
    go (yes h) ih = ap f h ∙ (both (f n) (all_below n f) e).0
    go (no h) ih = ih (omega arith)

-- bit s is set already, or j is s, or setting s leaves bit j as it is
unchanged : ℕ → ℕ → ℕ → Bool
unchanged x s j = eqb ((x / 2 ^ s) % 2) 1 || (eqb j s || eqb (((x + 2 ^ s) / 2 ^ j) % 2) ((x / 2 ^ j) % 2))

all_unchanged : all_below 256 (λ x. all_below 8 (λ s. all_below 8 (unchanged x s))) ≡ true
unfolding all_below unchanged
all_unchanged = refl

left_true : (x y z : Bool) → (x || (y || z)) ≡ true → x ≡ false → y ≡ false → z ≡ true
left_true false false z e f g = e
left_true true y z e f g = absurd (false≢true (sym f))
left_true false true z e f g = absurd (false≢true (sym g))

-- in a byte
byte_others : (x s j : ℕ) → x ≤ 255 → s < 8 → j < 8 → Clear x s → (j ≡ s → ⊥) → ((x + 2 ^ s) / 2 ^ j) % 2 ≡ (x / 2 ^ j) % 2
unfolding unchanged
byte_others x s j a b c f g =
    let h = below 8 (unchanged x s) (below 8 (λ s. all_below 8 (unchanged x s)) (below 256 (λ x. all_below 8 (λ s. all_below 8 (unchanged x s))) all_unchanged x (omega arith)) s b) j c in
    eqb-true _ _ (left_true _ _ _ h (ne_eqb _ _ f) (ne_eqb _ _ g))

-- and in any number
pub others : (x s j : ℕ) → s < 8 → j < 8 → Clear x s → (j ≡ s → ⊥) → ((x + 2 ^ s) / 2 ^ j) % 2 ≡ (x / 2 ^ j) % 2
others x s j b c f g =
    let clear : Clear (x % 256) s = λ e. f (low_bit s b x ∙ e) in
    let small : x % 256 ≤ 255 = omega arith in
    let fits : x % 256 + 2 ^ s ≤ 255 = fitting s b (x % 256) small clear in
    let low : (x + 2 ^ s) % 256 ≡ x % 256 + 2 ^ s = omega arith in
    low_bit j c (x + 2 ^ s) ∙ ap (λ (y : ℕ). (y / 2 ^ j) % 2) low ∙ byte_others (x % 256) s j small b c clear g ∙ sym (low_bit j c x)

-- A NEW MARK

-- the new byte is one, as the code makes it
pub mark_fits : (marks : List ℕ) (at q : ℕ) → get_or marks (byte_of at q) 0 ≤ 255 → eqb (mark marks at q) 1 ≡ false → get_or marks (byte_of at q) 0 + power (q % 8) ≤ 255
unfolding mark
mark_fits marks at q l f =
    let low : q % 8 < 8 = omega arith in
    let fits = fitting (q % 8) low (get_or marks (byte_of at q) 0) l (eqb-false _ _ f) in
    let same = power_is (q % 8) low in
    omega arith

pub mark_there : (marks : List ℕ) (at q : ℕ) → eqb (mark marks at q) 1 ≡ true → marks ≡ marked marks at q
unfolding marked
mark_there marks at q e = rw e

pub mark_set : (marks : List ℕ) (at q : ℕ) → eqb (mark marks at q) 1 ≡ false → set marks (byte_of at q) (get_or marks (byte_of at q) 0 + power (q % 8)) ≡ marked marks at q
unfolding marked
mark_set marks at q e = rw e (ap (λ (x : ℕ). set marks (byte_of at q) (get_or marks (byte_of at q) 0 + x)) (power_is (q % 8) (omega arith)))

pub by_marked : (P : List ℕ → Type 0) (marks : List ℕ) (at q : ℕ) → P marks → ((mark marks at q ≡ 1 → ⊥) → P (marked_if false marks at q)) → P (marked marks at q)
unfolding marked
by_marked P marks at q f g = by (eqb (mark marks at q) 1) refl
  where
    by : (b : Bool) → eqb (mark marks at q) 1 ≡ b → P (marked_if b marks at q)
    by true e = f
    by false e = g (eqb-false _ _ e)

pub length_marked : (marks : List ℕ) (at q : ℕ) → length (marked marks at q) ≡ length marks
length_marked marks at q = by_marked (λ l. length l ≡ length marks) marks at q refl (λ f. length-set marks (byte_of at q) (get_or marks (byte_of at q) 0 + 2 ^ (q % 8)))

-- bytes behind it stay
pub drop_marked : (marks : List ℕ) (at q n : ℕ) → byte_of at q < n → drop n (marked marks at q) ≡ drop n marks
drop_marked marks at q n h = by_marked (λ l. drop n l ≡ drop n marks) marks at q refl (λ f. drop-set-lt n marks (byte_of at q) (get_or marks (byte_of at q) 0 + 2 ^ (q % 8)) h)

-- a store at a place that may not be there
stored : (l : List ℕ) (k v : ℕ) → (get_or (set l k v) k 0 ≡ v) ⊎ (get_or (set l k v) k 0 ≡ get_or l k 0)
stored [] k v = inr refl
stored (x ∷ l) zero v = inl refl
stored (x ∷ l) (suc k) v = stored l k v

-- the pair i and j has the mark of the pair at and q
abbrev pub SameMark : ℕ → ℕ → ℕ → ℕ → Type 0
SameMark i j at q = (byte_of i j ≡ byte_of at q) × (j % 8 ≡ q % 8)

bit_only : (x s j : ℕ) → s < 8 → j < 8 → Clear x s → Dec (j ≡ s) → ((x + 2 ^ s) / 2 ^ j) % 2 ≡ 1 → ((x / 2 ^ j) % 2 ≡ 1) ⊎ (j ≡ s)
bit_only x s j b c f (yes g) e = inr g
bit_only x s j b c f (no g) e = inl (sym (others x s j b c f g) ∙ e)

module _ (marks : List ℕ) (at q i j : ℕ) where
  abbrev old : ℕ
  old = get_or marks (byte_of at q) 0

  abbrev new : ℕ
  new = old + 2 ^ (q % 8)

  abbrev bit : ℕ → ℕ
  bit x = (x / 2 ^ (j % 8)) % 2

  abbrev Only : Type 0
  Only = (bit (get_or marks (byte_of i j) 0) ≡ 1) ⊎ SameMark i j at q

  here : byte_of i j ≡ byte_of at q → (bit old ≡ 1) ⊎ (j % 8 ≡ q % 8) → Only
  here h (inl e) = inl (ap (λ (k : ℕ). bit (get_or marks k 0)) h ∙ e)
  here h (inr g) = inr (h, g)

  same : Clear old (q % 8) → byte_of i j ≡ byte_of at q → (x : ℕ) → (x ≡ new) ⊎ (x ≡ old) → bit x ≡ 1 → Only
  same f h x (inl s) e = here h (bit_only old (q % 8) (j % 8) (omega arith) (omega arith) f (ℕ_discrete (j % 8) (q % 8)) (ap bit (sym s) ∙ e))
  same f h x (inr s) e = here h (inl (ap bit (sym s) ∙ e))

  by : Clear old (q % 8) → Dec (byte_of i j ≡ byte_of at q) → bit (get_or (set marks (byte_of at q) new) (byte_of i j) 0) ≡ 1 → Only
  by f (yes h) e = same f h _ (stored marks (byte_of at q) new) (ap (λ (k : ℕ). bit (get_or (set marks (byte_of at q) new) k 0)) (sym h) ∙ e)
  by f (no h) e = inl (ap bit (sym (get_or-set_other marks (byte_of at q) (byte_of i j) new 0 h)) ∙ e)

  -- a mark was there, or it is the new one
  pub mark_only : mark (marked marks at q) i j ≡ 1 → (mark marks i j ≡ 1) ⊎ SameMark i j at q
  unfolding mark
  mark_only = by_marked (λ l. mark l i j ≡ 1 → (mark marks i j ≡ 1) ⊎ SameMark i j at q) marks at q (λ e. inl e) (λ f. by f (ℕ_discrete (byte_of i j) (byte_of at q)))

-- a byte without marks
pub mark_zero : (marks : List ℕ) (at q : ℕ) → get_or marks (byte_of at q) 0 ≡ 0 → mark marks at q ≡ 1 → ⊥
unfolding mark
mark_zero marks at q = zero_bit (q % 8) (omega arith) (get_or marks (byte_of at q) 0)
  where
    zero_bit : (s : ℕ) → s < 8 → (x : ℕ) → x ≡ 0 → (x / 2 ^ s) % 2 ≡ 1 → ⊥
    zero_bit =
        below8 (λ s. (x : ℕ) → x ≡ 0 → (x / 2 ^ s) % 2 ≡ 1 → ⊥) (λ x f g. omega arith) (λ x f g. omega arith) (λ x f g. omega arith) (λ x f g. omega arith) (λ x f g. omega arith) (λ x f g. omega arith) (λ x f g. omega arith)
        (λ x f g. omega arith)

-- CLEARED

in_zeros : (l : List ℕ) (n i : ℕ) → i < n → get_or (replicate n 0 ++ l) i 0 ≡ 0
in_zeros l zero i h = absurd (omega arith)
in_zeros l (suc n) zero h = refl
in_zeros l (suc n) (suc i) h = in_zeros l n i (omega arith)

pub behind_zeros : (l : List ℕ) (n : ℕ) → drop n (replicate n 0 ++ l) ≡ l
behind_zeros l zero = refl
behind_zeros l (suc n) = behind_zeros l n

pub cleared_zero : (marks : List ℕ) (n i : ℕ) → i < n → get_or (cleared marks n) i 0 ≡ 0
cleared_zero marks n i h = in_zeros (drop n marks) n i h

pub cleared_rest : (marks : List ℕ) (n : ℕ) → drop n (cleared marks n) ≡ drop n marks
cleared_rest marks n = behind_zeros (drop n marks) n

-- marks that were all zero behind the first n bytes are all zero
pub zero_again : (n k : ℕ) → n ≤ k → cleared (replicate k 0) n ≡ replicate k 0
zero_again zero k l = refl
zero_again (suc n) zero l = absurd (omega arith)
zero_again (suc n) (suc k) l = ap {B = List ℕ} (λ x. 0 ∷ x) (zero_again n k (omega arith))

-- The form of a word-pattern and its letters, byte by byte.
-- Assumes nothing.
use Prim.Native.Nat.{ℕ, suc, ◌+◌, ◌-◌, ◌≤◌, ◌<◌}
use mathlib.Core.Path.{◌≡◌, refl, ap, ◌∙◌}
use mathlib.Core.Bool.{Bool, true, false, not, ◌&&◌, ◌||◌, and-true, and-false}
use mathlib.Core.List.{List, [], ◌∷◌}
use native.Mathlib.Omega.{arith}
use borrow.Author.Tests.{eq-eqb, ne_eqb}
use lib.Dec.{eqb}
use lib.ListN.{length, get_or, drop, length-drop}
use lib.Seq.{drop-cons}
use Rattle.std.specs.List.{filter, list_all}
use Rattle.macros.specs.Macro.{pick}
use Rattle.words.specs.Pattern.{dash, allowed, is_empty, all_allowed, begins_with_dash, two_dashes, is_pattern}
use Rattle.words.specs.Cover.{somewhere, byte_then, covers}
use Rattle.words.proofs.CoverLaws.{covers_dash, covers_byte}
use Rattle.word_find.specs.Letters.{letter, letters}

-- BY THE LIBRARY'S FILTER AND TESTS

abbrev pub is_letter : ℕ → Bool
is_letter c = not (eqb c dash)

pub count_of_letters : (p : List ℕ) → length (filter is_letter p) ≡ letters p
unfolding letters letter pick
count_of_letters [] = refl
count_of_letters (c ∷ p) = by (eqb c dash) refl (count_of_letters p)
  where
    by : (x : Bool) → eqb c dash ≡ x → length (filter is_letter p) ≡ letters p → length (filter is_letter (c ∷ p)) ≡ letter c + letters p
    by true e h = rw (e, pick) (omega arith)
    by false e h = rw (e, pick) (omega arith)

pub each_allowed : (p : List ℕ) → list_all allowed p ≡ all_allowed p
unfolding all_allowed
each_allowed [] = refl
each_allowed (c ∷ p) = by (allowed c) (each_allowed p)
  where
    by : (x : Bool) → list_all allowed p ≡ all_allowed p → (x && list_all allowed p) ≡ elim x [ true ↦ all_allowed p | false ↦ false ]
    by true h = h
    by false h = refl

-- TWO DASHES

begins_at : (t : List ℕ) (i : ℕ) → i < length t → begins_with_dash (drop i t) ≡ eqb (get_or t i 0) dash
unfolding begins_with_dash
begins_at t i h = ap begins_with_dash (drop-cons t i 0 h)

module _ (t : List ℕ) (i : ℕ) (h : suc i < length t) where
  dashes_cons : (x : Bool) → (eqb (get_or t i 0) dash && eqb (get_or t (suc i) 0) dash) ≡ x → two_dashes (drop i t) ≡ elim x [ true ↦ true | false ↦ two_dashes (drop (suc i) t) ]
  unfolding two_dashes
  dashes_cons x e =
      ap two_dashes (drop-cons t i 0 (omega arith))
      ∙ ap (λ (y : Bool). elim y [ true ↦ true | false ↦ two_dashes (drop (suc i) t) ])
      (ap (λ (y : Bool). eqb (get_or t i 0) dash && y) (begins_at t (suc i) h) ∙ e)

-- the pair that ends at place j
module _ (t : List ℕ) (j : ℕ) (l : 1 ≤ j) (h : j < length t) where
  before : suc (j - 1) ≡ j
  before = omega arith

  pair : (x : Bool) → (eqb (get_or t (j - 1) 0) dash && eqb (get_or t j 0) dash) ≡ x → (eqb (get_or t (j - 1) 0) dash && eqb (get_or t (suc (j - 1)) 0) dash) ≡ x
  pair x e = ap (λ (k : ℕ). eqb (get_or t (j - 1) 0) dash && eqb (get_or t k 0) dash) before ∙ e

  pub dashes_here : (eqb (get_or t (j - 1) 0) dash && eqb (get_or t j 0) dash) ≡ true → two_dashes (drop (j - 1) t) ≡ true
  dashes_here e = dashes_cons t (j - 1) (omega arith) true (pair true e)

  pub dashes_next : (eqb (get_or t (j - 1) 0) dash && eqb (get_or t j 0) dash) ≡ false → two_dashes (drop (j - 1) t) ≡ two_dashes (drop (j + 1 - 1) t)
  dashes_next e =
      let k : suc (j - 1) ≡ j + 1 - 1 = omega arith in
      dashes_cons t (j - 1) (omega arith) false (pair false e) ∙ ap (λ (x : ℕ). two_dashes (drop x t)) k

few_dashes : (s : List ℕ) → length s ≤ 1 → two_dashes s ≡ false
unfolding two_dashes begins_with_dash
few_dashes [] h = refl
few_dashes (c ∷ []) h = by (eqb c dash) where
  by : (x : Bool) → (elim (x && false) [ true ↦ true | false ↦ false ]) ≡ false
  by true = refl
  by false = refl
few_dashes (c ∷ d ∷ s) h = absurd (omega arith)

pub dashes_none : (t : List ℕ) (j : ℕ) → length t ≤ j → two_dashes (drop (j - 1) t) ≡ false
dashes_none t j h = few_dashes (drop (j - 1) t) (omega (arith, length-drop (j - 1) t))

-- by its two bytes
pub both : {a b : ℕ} → a ≡ 45 → b ≡ 45 → (eqb a dash && eqb b dash) ≡ true
both {a} {b} e f = rw (eq-eqb a 45 e, eq-eqb b 45 f) refl

pub not_first_dash : {a : ℕ} (b : ℕ) → (a ≡ 45 → ⊥) → (eqb a dash && eqb b dash) ≡ false
not_first_dash {a} b f = rw (ne_eqb a 45 f) refl

pub not_second_dash : (a : ℕ) {b : ℕ} → (b ≡ 45 → ⊥) → (eqb a dash && eqb b dash) ≡ false
not_second_dash a {b} f = rw (ne_eqb b 45 f) (and-false (eqb a dash))

-- THE FORM

pub form_empty : (p : List ℕ) → length p < 1 → is_pattern p ≡ false
unfolding is_pattern is_empty
form_empty [] h = refl
form_empty (c ∷ p) h = absurd (omega arith)

module _ (p : List ℕ) (h : 1 ≤ length p) where
  not_empty_lem : is_empty p ≡ false
  unfolding is_empty
  not_empty_lem = by p h where
    by : (s : List ℕ) → 1 ≤ length s → is_empty s ≡ false
    by [] g = absurd (omega arith)
    by (c ∷ s) g = refl

  form_is : (x : Bool) → two_dashes p ≡ x → is_pattern p ≡ (all_allowed p && not x)
  unfolding is_pattern
  form_is x e = ap (λ (y : Bool). not y && (all_allowed p && not (two_dashes p))) not_empty_lem ∙ ap (λ (y : Bool). all_allowed p && not y) e

  pub form_dashes : two_dashes p ≡ true → is_pattern p ≡ false
  form_dashes e = form_is true e ∙ and-false (all_allowed p)

  pub form_rest : two_dashes p ≡ false → is_pattern p ≡ all_allowed p
  form_rest e = form_is false e ∙ and-true (all_allowed p)

-- A WORD WITH FEWER BYTES THAN THE PATTERN HAS LETTERS AND DIGITS IS NOT COVERED

Long : List ℕ → Type 0
Long p = (w : List ℕ) → length w < letters p → covers p w ≡ false

letter_dash : (c : ℕ) → eqb c dash ≡ true → letter c ≡ 0
unfolding letter pick
letter_dash c e = ap (λ (x : Bool). pick x 0 1) e

letter_byte : (c : ℕ) → eqb c dash ≡ false → letter c ≡ 1
unfolding letter pick
letter_byte c e = ap (λ (x : Bool). pick x 0 1) e

nowhere : (p : List ℕ) → Long p → (w : List ℕ) → length w < letters p → somewhere (covers p) w ≡ false
unfolding somewhere Long
nowhere p ih [] h = ih [] h
nowhere p ih (b ∷ w) h = ap (λ (x : Bool). x || somewhere (covers p) w) (ih (b ∷ w) h) ∙ nowhere p ih w (omega arith)

not_first : (c : ℕ) (p : List ℕ) → Long p → (w : List ℕ) → length w < 1 + letters p → byte_then c (covers p) w ≡ false
unfolding byte_then Long
not_first c p ih [] h = refl
not_first c p ih (b ∷ w) h = by (eqb c b) where
  by : (x : Bool) → (elim x [ true ↦ covers p w | false ↦ false ]) ≡ false
  by true = ih w (omega arith)
  by false = refl

long_by : (c : ℕ) (p : List ℕ) (x : Bool) → eqb c dash ≡ x → Long p → Long (c ∷ p)
unfolding letters Long
long_by c p true e ih w h = covers_dash c p e w ∙ nowhere p ih w (omega (arith, letter_dash c e))
long_by c p false e ih w h = covers_byte c p e w ∙ not_first c p ih w (omega (arith, letter_byte c e))

long_end : Long []
unfolding letters Long
long_end w h = absurd (omega arith)

long : (p : List ℕ) → Long p
long [] = long_end
long (c ∷ p) = long_by c p (eqb c dash) refl (long p)

pub too_long : (p w : List ℕ) → length w < letters p → covers p w ≡ false
unfolding Long
too_long p w h = long p w h

-- A text, a number's digits or a byte at a place of the line.
-- Assumes nothing.
use Prim.Native.Nat.{ℕ, zero, suc, ◌+◌, ◌/◌, ◌%◌, ◌≤◌, ◌<◌}
use mathlib.Core.Path.{◌≡◌, refl, sym, ap, ◌∙◌}
use mathlib.Core.Bool.{Bool, true, false, ◌&&◌}
use mathlib.Core.List.{List, [], ◌∷◌, ◌++◌}
use native.Mathlib.Omega.{arith}
use native.Mathlib.Decide.{ℕ_discrete}
use borrow.Author.Tests.{eq-eqb, ne_eqb, ltb-false, lt-ltb, le-ltb}
use lib.Dec.{eqb, ltb}
use lib.ListN.{length, drop, get_or, drop_of_length-le, length-drop, length-append}
use lib.Seq.{drop-cons, drop-drop}
use Rattle.std.specs.Prelude.{Option, Some, None}
use Rattle.std.specs.List.{starts_with}
use Rattle.std.specs.Option.{is_some}
use Rattle.macros.specs.Macro.{pick}
use Rattle.macros.specs.Write.{digits, digits_by}
use Rattle.lines.specs.Matching.{byte_fits, begins}
use Rattle.lines.specs.Choosing.{is_end}
use Rattle.pass_unit.specs.Pieces.{led_to}

module _ (l : List ℕ) (p : ℕ) where
  pub here : p < length l → drop p l ≡ get_or l p 0 ∷ drop (p + 1) l
  here lt = drop-cons l p 0 lt ∙ ap (λ (j : ℕ). get_or l p 0 ∷ drop j l) (let z : suc p ≡ p + 1 = omega arith in z)

  pub past : length l ≤ p → drop p l ≡ []
  past le = drop_of_length-le l {i = p} le

  pub byte_here_lem : (f : ℕ → Bool) → p < length l → byte_fits f (drop p l) ≡ f (get_or l p 0)
  unfolding byte_fits
  byte_here_lem f lt = ap (byte_fits f) (here lt)

  pub byte_past : (f : ℕ → Bool) → length l ≤ p → byte_fits f (drop p l) ≡ false
  unfolding byte_fits
  byte_past f le = ap (byte_fits f) (past le)

  pub end_at : p ≤ length l → eqb p (length l) ≡ is_end (drop p l)
  unfolding is_end
  end_at le = go (ℕ_discrete p (length l))
    where
      go : Dec (p ≡ length l) → eqb p (length l) ≡ is_end (drop p l)
      go (yes e) = eq-eqb _ _ e ∙ sym (ap is_end (past (omega arith)))
      go (no n) = ne_eqb _ _ n ∙ sym (ap is_end (here (omega arith)))

if_same : (x y : Bool) → (elim x [ true ↦ y | false ↦ false ]) ≡ (x && y)
if_same true y = refl
if_same false y = refl

-- whether a text stands at the head, as the library tests it
pub prefix_is : (t s : List ℕ) → starts_with eqb s t ≡ begins t s
unfolding begins
prefix_is [] s = refl
prefix_is (c ∷ t) [] = refl
prefix_is (c ∷ t) (b ∷ s) = ap (λ (x : Bool). eqb c b && x) (prefix_is t s) ∙ sym (if_same (eqb c b) (begins t s))

-- DIGITS

digits_fuel : (j k n : ℕ) → n ≤ j → n ≤ k → digits_by j n ≡ digits_by k n
unfolding digits_by pick
digits_fuel zero zero n h l = refl
digits_fuel zero (suc k) n h l = rw (lt-ltb n 10 (omega arith))
digits_fuel (suc j) zero n h l = rw (lt-ltb n 10 (omega arith))
digits_fuel (suc j) (suc k) n h l = by (ltb n 10) refl (λ x y. digits_fuel j k (n / 10) x y)
  where
    by : (p : Bool) → ltb n 10 ≡ p → (n / 10 ≤ j → n / 10 ≤ k → digits_by j (n / 10) ≡ digits_by k (n / 10))
        → pick p ((48 + n) ∷ []) (digits_by j (n / 10) ++ ((48 + n % 10) ∷ [])) ≡ pick p ((48 + n) ∷ []) (digits_by k (n / 10) ++ ((48 + n % 10) ∷ []))
    by true e ih = refl
    by false e ih = let g : 10 ≤ n = ltb-false n 10 e in rw (ih (omega arith) (omega arith))

pub digits_few : (n : ℕ) → n < 10 → digits n ≡ (48 + n) ∷ []
unfolding digits digits_by pick
digits_few zero h = refl
digits_few (suc n) h = rw (lt-ltb (suc n) 10 h)

pub digits_last : (n : ℕ) → 10 ≤ n → digits n ≡ digits (n / 10) ++ ((48 + n % 10) ∷ [])
unfolding digits digits_by pick
digits_last zero h = absurd (omega arith)
digits_last (suc n) h = rw (le-ltb (suc n) 10 h, digits_fuel n (suc n / 10) (suc n / 10) (omega arith) (omega arith))

pub digits_longer : (n : ℕ) → 10 ≤ n → length (digits n) ≡ length (digits (n / 10)) + 1
digits_longer n h = ap length (digits_last n h) ∙ length-append (digits (n / 10)) ((48 + n % 10) ∷ [])

and_same : (x y z : Bool) → (x && (y && z)) ≡ ((x && y) && z)
and_same true y z = refl
and_same false y z = refl

begins_both : (a c s : List ℕ) → begins (a ++ c) s ≡ (begins a s && begins c (drop (length a) s))
unfolding begins
begins_both [] c s = refl
begins_both (x ∷ a) c [] = refl
begins_both (x ∷ a) c (y ∷ s) = if_same (eqb x y) (begins (a ++ c) s) ∙ ap (λ (z : Bool). eqb x y && z) (begins_both a c s) ∙ and_same (eqb x y) (begins a s) (begins c (drop (length a) s)) ∙ sym (ap (λ (z : Bool). z && begins c (drop (length a) s)) (if_same (eqb x y) (begins a s)))

-- one digit at p
module _ (n : ℕ) (l : List ℕ) (p : ℕ) where
  pub digit_past : length l ≤ p → None ≡ led_to (begins ((48 + n) ∷ []) (drop p l)) (p + 1)
  unfolding begins led_to pick
  digit_past le = rw (past l p le)

  pub digit_is : p < length l → get_or l p 0 ≡ 48 + n → Some (p + 1) ≡ led_to (begins ((48 + n) ∷ []) (drop p l)) (p + 1)
  unfolding begins led_to pick
  digit_is lt e = rw (here l p lt, begins, eq-eqb (48 + n) (get_or l p 0) (sym e))

  pub digit_not : p < length l → (get_or l p 0 ≡ 48 + n → ⊥) → None ≡ led_to (begins ((48 + n) ∷ []) (drop p l)) (p + 1)
  unfolding begins led_to pick
  digit_not lt e = rw (here l p lt, begins, ne_eqb (48 + n) (get_or l p 0) (λ z. e (sym z)))

-- what a lead says
pub led_true : (b : Bool) (q k : ℕ) → Some k ≡ led_to b q → (b ≡ true) × (k ≡ q)
unfolding led_to pick
led_true true q k e = (refl, cc)
led_true false q k e = absurd (let z : ◌≡◌ {A = ℕ} 0 1 = cc in omega arith)

pub led_false : (b : Bool) (q : ℕ) → None ≡ led_to b q → b ≡ false
unfolding led_to pick
led_false true q e = absurd (let z : ◌≡◌ {A = ℕ} 0 1 = cc in omega arith)
led_false false q e = refl

pub lead_is : (b : Bool) (q : ℕ) → is_some (led_to b q) ≡ b
unfolding led_to pick
lead_is true q = refl
lead_is false q = refl

begins_inside : (cs s : List ℕ) → begins cs s ≡ true → length cs ≤ length s
unfolding begins
begins_inside [] s e = omega arith
begins_inside (c ∷ cs) [] e = absurd (let z : ◌≡◌ {A = ℕ} 0 1 = cc in omega arith)
begins_inside (c ∷ cs) (b ∷ bs) e = go (eqb c b) e (begins_inside cs bs)
  where
    go : (x : Bool) → (elim x [ true ↦ begins cs bs | false ↦ false ]) ≡ true → (begins cs bs ≡ true → length cs ≤ length bs) → suc (length cs) ≤ suc (length bs)
    go true f ih = let h = ih f in omega arith
    go false f ih = absurd (let z : ◌≡◌ {A = ℕ} 0 1 = cc in omega arith)

pub begins_short : (t s : List ℕ) → length s < length t → false ≡ begins t s
begins_short t s l = go (begins t s) refl
  where
    go : (x : Bool) → begins t s ≡ x → false ≡ begins t s
    go true e = absurd (let h = begins_inside t s e in omega arith)
    go false e = sym e

module _ (n : ℕ) (l : List ℕ) (p : ℕ) where
  pub number_few : n < 10 → (r : Option ℕ) → r ≡ led_to (begins ((48 + n) ∷ []) (drop p l)) (p + 1) → r ≡ led_to (begins (digits n) (drop p l)) (p + length (digits n))
  number_few lt r e = rw (digits_few n lt) e

  pub number_not : 10 ≤ n → None ≡ led_to (begins (digits (n / 10)) (drop p l)) (p + length (digits (n / 10))) → None ≡ led_to (begins (digits n) (drop p l)) (p + length (digits n))
  unfolding led_to pick
  number_not le e = rw (digits_last n le, begins_both (digits (n / 10)) ((48 + n % 10) ∷ []) (drop p l), led_false (begins (digits (n / 10)) (drop p l)) (p + length (digits (n / 10))) e)

  pub number_then : 10 ≤ n → (q : ℕ) → Some q ≡ led_to (begins (digits (n / 10)) (drop p l)) (p + length (digits (n / 10))) → (r : Option ℕ) → r ≡ led_to (begins ((48 + n % 10) ∷ []) (drop q l)) (q + 1)
      → r ≡ led_to (begins (digits n) (drop p l)) (p + length (digits n))
  number_then le q e r f =
      let a = led_true _ _ _ e in
      let j : q + 1 ≡ p + length (digits n) = (let k = digits_longer n le in let b = a.1 in omega arith) in
      let d : drop (length (digits (n / 10))) (drop p l) ≡ drop q l = drop-drop (length (digits (n / 10))) p l ∙ ap (λ (i : ℕ). drop i l) (sym a.1) in
      f ∙ ap (λ (i : ℕ). led_to (begins ((48 + n % 10) ∷ []) (drop q l)) i) j
      ∙ ap (λ (b : Bool). led_to b (p + length (digits n)))
      (sym (ap (λ (x : List ℕ). begins x (drop p l)) (digits_last n le) ∙ begins_both (digits (n / 10)) ((48 + n % 10) ∷ []) (drop p l) ∙ rw (a.0, d)))

  pub number_inside : (q : ℕ) → p ≤ length l → Some q ≡ led_to (begins (digits n) (drop p l)) (p + length (digits n)) → q ≤ length l
  number_inside q le e =
      let a = led_true _ _ _ e in
      let b = begins_inside (digits n) (drop p l) a.0 in
      let c = length-drop p l in
      let d = a.1 in
      omega arith

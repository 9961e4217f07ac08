-- Each way through the code's step against the definition's. Assumes nothing.
use Prim.Native.Nat.{ℕ, zero, suc, ◌+◌, ◌-◌, ◌/◌, ◌%◌, ◌≤◌, ◌<◌}
use mathlib.Core.Path.{◌≡◌, refl, sym, ap, ◌∙◌}
use mathlib.Core.Bool.{Bool, true, false, ◌&&◌, ◌||◌}
use mathlib.Core.List.{[], ◌∷◌}
use mathlib.Core.Option.{Option, none, some}
use native.Mathlib.Nat.{add-zero}
use native.Mathlib.Numerals.{add-one}
use native.Mathlib.Omega.{arith}
use borrow.Author.Tests.{eq-eqb, ne_eqb, eqb-true, lt-ltb, le-ltb, le-leb, lt-leb, leb-true}
use lib.Dec.{eqb, leb}
use Rattle.macros.specs.Macro.{Closure, PatternUnit, pick, among, within, ascii_lower}
use Rattle.macros.specs.Macro.Mark.{stack, counter}
use Rattle.macros.specs.Macro.PatternUnit.{literal, kind, class, call_of}
use Rattle.macros.specs.Read.{signs, kind_digit}
use Rattle.form_table.specs.Walk.{given, bit}
use Rattle.form_table.specs.PatternWalk.{Joint, Inside, PatternSpot, joins_at, closure_of, closure_length, closure_joint, unit_of, literal_length, literal_joint, opening, element_at, element_step, sign_step, piece_step}
use Rattle.form_table.specs.PatternWalk.{owed, at_start, behind_single, some_member, member_length, member_spot, member_step}
use Rattle.form_table.specs.PatternWalk.Joint.{loose, after_star, after_query, after_mark}
use Rattle.form_table.specs.PatternWalk.Inside.{at_bracket, at_tilde}
use Rattle.form_table.specs.PatternWalk.PatternSpot.{behind_piece, in_class, in_range}
use Rattle.form_table.specs.PatternWalk.PatternState.{pattern_at}
use Rattle.check_table.specs.PatternCode.{inside_of, closed_joint, ended}
use Rattle.form_marks.proofs.ByteLaws.{and_left, and_right}

-- CLOSURES

module _ (at : Joint → PatternSpot) (n t d e : ℕ) (j : Joint) where
  pub ended_not : (k : ℕ) → 2 < k → ended at n t d e j (closure_of k) ≡ none
  unfolding ended closure_of pick
  ended_not k h = simp (ne_eqb k 0 (λ p. omega arith), ne_eqb k 1 (λ p. omega arith), ne_eqb k 2 (λ p. omega arith))

  pub ended_by : (k : ℕ) → k ≤ 2 → ended at n t d e j (closure_of k) ≡ some (pattern_at (n + k) t d (e + 1) (at (closed_joint j k)))
  unfolding ended closure_of pick closed_joint closure_length closure_joint
  ended_by zero h = rw (add-one e)
  ended_by (suc zero) h = rw (add-one e)
  ended_by (suc (suc zero)) h = rw (add-one e)
  ended_by (suc (suc (suc k))) h = absurd (omega arith)

-- UNITS

module _ (n t d e o : ℕ) (j : Joint) where
  literal_ended : (k : Option Closure) → ended behind_piece (n + literal_length j o) t d e (literal_joint o) k ≡ element_step n t d e j (some (literal o)) k
  unfolding ended element_step element_at
  literal_ended none = refl
  literal_ended (some k) = refl

  kind_ended : (k : Option Closure) → ended behind_piece (n + 2) t d e loose k ≡ element_step n t d e j (some (kind o)) k
  unfolding ended element_step element_at
  kind_ended none = refl
  kind_ended (some k) = refl

  stack_ended : (k : Option Closure) → ended behind_piece (n + 4) t d e loose k ≡ element_step n t d e j (some (call_of stack o)) k
  unfolding ended element_step element_at
  stack_ended none = refl
  stack_ended (some k) = refl

  counter_ended : (k : Option Closure) → ended behind_piece (n + 4) t d e loose k ≡ element_step n t d e j (some (call_of counter o)) k
  unfolding ended element_step element_at
  counter_ended none = refl
  counter_ended (some k) = refl

literal_unit : (o : ℕ) → 1 ≤ o → o ≤ 255 → unit_of 2 o ≡ some (literal o)
unfolding unit_of given within pick
literal_unit o a b = simp (le-leb 1 o a, le-leb o 255 b)

pub literal_not : (o : ℕ) → o < 1 → unit_of 2 o ≡ none
unfolding unit_of given within pick
literal_not o a = simp (lt-leb 1 o a)

pub literal_law :
    (n t d e o l : ℕ) (j i : Joint) (k : Option Closure) → l ≡ literal_length j o → i ≡ literal_joint o → 1 ≤ o → o ≤ 255
    → ended behind_piece (n + l) t d e i k ≡ element_step n t d e j (unit_of 2 o) k
literal_law n t d e o l j i k p q a b = rw (p, q, literal_unit o a b) (literal_ended n t d e o j k)

plain_law :
    (n t d e l : ℕ) (j : Joint) (k : Option Closure) (ok : Bool) (u : PatternUnit) (unit : Option PatternUnit)
    → unit ≡ given ok u → ended behind_piece (n + l) t d e loose k ≡ element_step n t d e j (some u) k
    → pick ok (ended behind_piece (n + l) t d e loose k) none ≡ element_step n t d e j unit k
unfolding pick given element_step
plain_law n t d e l j k true u unit p q = q ∙ ap (λ (x : Option PatternUnit). element_step n t d e j x k) (sym p)
plain_law n t d e l j k false u unit p q = ap (λ (x : Option PatternUnit). element_step n t d e j x k) (sym p)

module _ (n t d e u o : ℕ) (j : Joint) (k : Option Closure) (ok : Bool) where
  pub kind_law : u ≡ 3 → ok ≡ within 1 6 o → pick ok (ended behind_piece (n + 2) t d e loose k) none ≡ element_step n t d e j (unit_of u o) k
  unfolding unit_of pick
  kind_law p q = plain_law n t d e 2 j k ok (kind o) (unit_of u o) (rw (p, q)) (kind_ended n t d e o j k)

  pub stack_law : u ≡ 4 → ok ≡ within 97 122 o → pick ok (ended behind_piece (n + 4) t d e loose k) none ≡ element_step n t d e j (unit_of u o) k
  unfolding unit_of pick ascii_lower
  stack_law p q = plain_law n t d e 4 j k ok (call_of stack o) (unit_of u o) (rw (p, q)) (stack_ended n t d e o j k)

  pub counter_law : u ≡ 5 → ok ≡ within 97 122 o → pick ok (ended behind_piece (n + 4) t d e loose k) none ≡ element_step n t d e j (unit_of u o) k
  unfolding unit_of pick ascii_lower
  counter_law p q = plain_law n t d e 4 j k ok (call_of counter o) (unit_of u o) (rw (p, q)) (counter_ended n t d e o j k)

module _ (n t d e o : ℕ) (neg : Bool) where
  pub class_not : (k : Option Closure) → 0 < o → element_step n t d e loose (given (eqb o 0) (class neg [])) k ≡ none
  unfolding given element_step
  class_not k h = simp (ne_eqb o 0 (λ p. omega arith))

  class_other : (k : Option Closure) → neg ≡ true → o ≤ 0 → ended (λ j. in_class j at_tilde) (n + 2 + 1) t d e loose k ≡ element_step n t d e loose (given (eqb o 0) (class neg [])) k
  unfolding given ended element_step element_at opening bit
  class_other none p h = rw (eq-eqb o 0 (omega arith))
  class_other (some k) p h = rw (p, eq-eqb o 0 (omega arith))

  class_plain : (k : Option Closure) → neg ≡ false → o ≤ 0 → ended (λ j. in_class j at_bracket) (n + 2 + 0) t d e loose k ≡ element_step n t d e loose (given (eqb o 0) (class neg [])) k
  unfolding given ended element_step element_at opening bit
  class_plain none p h = rw (eq-eqb o 0 (omega arith))
  class_plain (some k) p h = rw (p, eq-eqb o 0 (omega arith))

pub class_into : (n t d e o w : ℕ) (k : Option Closure) → w ≤ 1 → o ≤ 0
    → ended (λ j. in_class j (inside_of w)) (n + 2 + w) t d e loose k ≡ element_step n t d e loose (given (eqb o 0) (class (eqb w 1) [])) k
unfolding inside_of pick
class_into n t d e o zero k l h = class_plain n t d e o false k refl h
class_into n t d e o (suc zero) k l h = class_other n t d e o true k refl h
class_into n t d e o (suc (suc w)) k l h = absurd (omega arith)

class_joint : (n t d e : ℕ) (j : Joint) (k : Option Closure) (ok neg : Bool) → element_step n t d e loose (given ok (class neg [])) k ≡ element_step n t d e j (given ok (class neg [])) k
unfolding given element_step element_at
class_joint n t d e j none true neg = refl
class_joint n t d e j (some k) true neg = refl
class_joint n t d e j k false neg = refl

module _ (n t d e u o : ℕ) (j : Joint) (k : Option Closure) where
  pub class_law : u ≡ 6 → element_step n t d e loose (given (eqb o 0) (class false [])) k ≡ element_step n t d e j (unit_of u o) k
  unfolding unit_of pick
  class_law p = class_joint n t d e j k (eqb o 0) false ∙ rw p

  pub complement_law : u ≡ 7 → element_step n t d e loose (given (eqb o 0) (class true [])) k ≡ element_step n t d e j (unit_of u o) k
  unfolding unit_of pick
  complement_law p = class_joint n t d e j k (eqb o 0) true ∙ rw p

  pub unit_not :
      (u ≡ 2 → ⊥) → (u ≡ 3 → ⊥) → (u ≡ 4 → ⊥) → (u ≡ 5 → ⊥) → (u ≡ 6 → ⊥) → (u ≡ 7 → ⊥) → none ≡ element_step n t d e j (unit_of u o) k
  unfolding unit_of pick element_step
  unit_not a b c f g h = simp (ne_eqb u 2 a, ne_eqb u 3 b, ne_eqb u 4 c, ne_eqb u 5 f, ne_eqb u 6 g, ne_eqb u 7 h)

-- SIGNS

module _ (n t d e c : ℕ) where
  pub sign_left : c ≡ 1 → t < 99 → sign_step n t d e c ≡ some (pattern_at (suc n) (t + 1) (d + 1) e (behind_piece loose))
  unfolding sign_step given pick
  sign_left p h = rw p (simp (lt-ltb t 99 h, add-one))

  pub sign_full : c ≡ 1 → 99 ≤ t → sign_step n t d e c ≡ none
  unfolding sign_step given pick
  sign_full p h = rw p (simp (le-ltb t 99 h))

  pub sign_right : c ≡ 2 → 0 < d → sign_step n t d e c ≡ some (pattern_at (suc n) t (d - 1) e (behind_piece loose))
  unfolding sign_step given pick
  sign_right p h = rw p (simp (lt-ltb 0 d h))

  pub sign_shut : c ≡ 2 → d ≤ 0 → sign_step n t d e c ≡ none
  unfolding sign_step given pick
  sign_shut p h = rw p (simp (le-ltb 0 d h))

  pub sign_start : c ≡ 3 → sign_step n t d e c ≡ some (pattern_at (suc n) t d (e + 1) (behind_piece loose))
  unfolding sign_step pick
  sign_start p = rw (p, add-one)

  pub sign_end : c ≡ 4 → sign_step n t d e c ≡ some (pattern_at (suc n) t d (e + 1) (behind_piece loose))
  unfolding sign_step pick
  sign_end p = rw (p, add-one)

  pub sign_not : (c ≡ 1 → ⊥) → (c ≡ 2 → ⊥) → (c ≡ 3 → ⊥) → (c ≡ 4 → ⊥) → sign_step n t d e c ≡ none
  unfolding sign_step pick
  sign_not f g h i = simp (ne_eqb c 1 f, ne_eqb c 2 g, ne_eqb c 3 h, ne_eqb c 4 i)

-- PIECES

module _ (n t d e : ℕ) (j : Joint) (c o : ℕ) where
  pub piece_element : 7 < c → piece_step n t d e j c o ≡ element_step n t d e j (unit_of (c / 4) o) (closure_of (c % 4))
  unfolding piece_step pick
  piece_element h = simp (le-ltb c 8 h)

  pub piece_not : c ≤ 7 → 0 < o → piece_step n t d e j c o ≡ none
  unfolding piece_step pick
  piece_not h g = simp (lt-ltb c 8 (omega arith), ne_eqb o 0 (λ p. omega arith))

  pub piece_sign : c ≤ 7 → o ≤ 0 → piece_step n t d e j c o ≡ sign_step n t d e c
  unfolding piece_step pick
  piece_sign h g = simp (lt-ltb c 8 (omega arith), eq-eqb o 0 (omega arith))

-- A LETTER

module _ (o : ℕ) (a : 97 ≤ o) (b : o ≤ 122) where
  letter_not : (k : ℕ) → k < 97 → eqb o k ≡ false
  letter_not k h = ne_eqb o k (λ p. omega arith)

  letter_sign : among (47 ∷ signs) o ≡ false
  unfolding among signs
  letter_sign = rw (letter_not 47 (omega arith), letter_not 39 (omega arith), letter_not 59 (omega arith), letter_not 10 (omega arith), letter_not 42 (omega arith), letter_not 92 (omega arith), letter_not 91 (omega arith), letter_not 94 (omega arith), letter_not 36 (omega arith), ne_eqb o 123 (λ p. omega arith), ne_eqb o 125 (λ p. omega arith)) refl

  letter_joins : (j : Joint) → joins_at j o ≡ false
  unfolding joins_at kind_digit within
  letter_joins loose = refl
  letter_joins after_star = letter_not 45 (omega arith)
  letter_joins after_query = rw (le-leb 49 o (omega arith), lt-leb o 54 (omega arith)) refl
  letter_joins after_mark = letter_not 40 (omega arith)

  letter_length : (j : Joint) → literal_length j o ≡ 1
  unfolding literal_length bit
  letter_length j = rw (letter_sign, letter_joins j) refl

  letter_joint : literal_joint o ≡ loose
  unfolding literal_joint pick
  letter_joint = rw (letter_not 63 (omega arith), letter_not 38 (omega arith), letter_not 35 (omega arith)) refl

  piece_letter : (n t d e : ℕ) (j : Joint) (c : ℕ) → c ≡ 8 → some (pattern_at (suc n) t d (e + 1) (behind_piece loose)) ≡ piece_step n t d e j c o
  unfolding piece_step pick closure_of element_step element_at closure_length closure_joint
  piece_letter n t d e j c p = rw (p, literal_unit o (omega arith) (omega arith), letter_length j, letter_joint) (rw (add-one n, add-one e, add-zero (suc n)) refl)

-- what the code tests
pub piece_short : (n t d e : ℕ) (j : Joint) (c o : ℕ) (w : Bool) → w ≡ within 97 122 o → w && eqb c 8 ≡ true
    → some (pattern_at (suc n) t d (e + 1) (behind_piece loose)) ≡ piece_step n t d e j c o
unfolding within
piece_short n t d e j c o w p q =
    let h = sym p ∙ and_left w (eqb c 8) q in
    let a = leb-true 97 o (and_left (leb 97 o) (leb o 122) h) in
    let b = leb-true o 122 (and_right (leb 97 o) (leb o 122) h) in
    piece_letter o a b n t d e j c (eqb-true c 8 (and_right w (eqb c 8) q))

-- MEMBERS

past : (w m : ℕ) → m < 4 → eqb (suc (suc (suc (suc w)))) m ≡ false
past w m h = ne_eqb (suc (suc (suc (suc w)))) m (λ p. omega arith)

pub inside_start : (w : ℕ) → eqb w 0 ≡ at_start (inside_of w)
unfolding at_start inside_of pick
inside_start zero = refl
inside_start (suc zero) = refl
inside_start (suc (suc zero)) = refl
inside_start (suc (suc (suc zero))) = refl
inside_start (suc (suc (suc (suc w)))) = rw (past w 0 (omega arith), past w 1 (omega arith), past w 2 (omega arith), past w 3 (omega arith))

pub inside_owed : (w : ℕ) → bit (eqb w 3) ≡ owed (inside_of w)
unfolding bit owed inside_of pick
inside_owed zero = refl
inside_owed (suc zero) = refl
inside_owed (suc (suc zero)) = refl
inside_owed (suc (suc (suc zero))) = refl
inside_owed (suc (suc (suc (suc w)))) = rw (past w 0 (omega arith), past w 1 (omega arith), past w 2 (omega arith), past w 3 (omega arith))

pub inside_single : (w : ℕ) → (eqb w 2 || eqb w 3) ≡ behind_single (inside_of w)
unfolding behind_single inside_of pick
inside_single zero = refl
inside_single (suc zero) = refl
inside_single (suc (suc zero)) = refl
inside_single (suc (suc (suc zero))) = refl
inside_single (suc (suc (suc (suc w)))) = rw (past w 0 (omega arith), past w 1 (omega arith), past w 2 (omega arith), past w 3 (omega arith))

pub inside_some : (w : ℕ) → leb 2 w ≡ some_member (inside_of w)
unfolding some_member inside_of pick
inside_some zero = refl
inside_some (suc zero) = refl
inside_some (suc (suc zero)) = refl
inside_some (suc (suc (suc zero))) = refl
inside_some (suc (suc (suc (suc w)))) = rw (past w 0 (omega arith), past w 1 (omega arith), past w 2 (omega arith), past w 3 (omega arith), le-leb 2 (suc (suc (suc (suc w)))) (omega arith))

module _ (n t d e : ℕ) (j : Joint) (w : Inside) (c o : ℕ) where
  pub member_single : c ≡ 32 → 1 ≤ o → o ≤ 255 → member_step n t d e j w c o ≡ some (pattern_at (n + owed w + member_length w o) t d e (in_class j (member_spot w o)))
  unfolding member_step given within pick
  member_single p a b = rw p (simp (le-leb 1 o a, le-leb o 255 b))

  pub member_zero : c ≡ 32 → o < 1 → member_step n t d e j w c o ≡ none
  unfolding member_step given within pick
  member_zero p a = rw p (simp (lt-leb 1 o a))

  pub member_range : c ≡ 33 → member_step n t d e j w c o ≡ some (pattern_at (n + owed w + 3) t d e (in_range j o))
  unfolding member_step pick
  member_range p = rw p

  pub member_end : c ≡ 35 → eqb o 0 && some_member w ≡ true → member_step n t d e j w c o ≡ some (pattern_at n t d e (behind_piece j))
  unfolding member_step given pick
  member_end p q = rw (p, q)

  pub member_open : c ≡ 35 → eqb o 0 && some_member w ≡ false → member_step n t d e j w c o ≡ none
  unfolding member_step given pick
  member_open p q = rw (p, q)

  pub member_not : (c ≡ 32 → ⊥) → (c ≡ 33 → ⊥) → (c ≡ 35 → ⊥) → member_step n t d e j w c o ≡ none
  unfolding member_step pick
  member_not f g h = simp (ne_eqb c 32 f, ne_eqb c 33 g, ne_eqb c 35 h)

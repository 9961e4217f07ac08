-- Each way through the code's step against the definition's. Assumes nothing.
use Prim.Native.Nat.{ℕ, zero, suc, ◌+◌, ◌-◌, ◌/◌, ◌%◌, ◌≤◌, ◌<◌}
use mathlib.Core.Path.{◌≡◌, refl, sym, ◌∙◌}
use mathlib.Core.Bool.{Bool, true, false, not, ◌&&◌, ◌||◌}
use mathlib.Core.Option.{Option, none, some}
use native.Mathlib.Omega.{arith}
use borrow.Author.Tests.{eq-eqb, ne_eqb, le-leb, lt-leb}
use lib.Dec.{eqb, ltb}
use Rattle.macros.specs.Macro.{Mark, Move, pick, within, ascii_lower}
use Rattle.macros.specs.Macro.Mark.{stack, counter}
use Rattle.macros.specs.Macro.Sign.{plus, minus}
use Rattle.macros.specs.Macro.Move.{still, before, after}
use Rattle.macros.specs.Macro.Call.{set_to, set_increment, divide}
use Rattle.macros.specs.Read.{is_still}
use Rattle.macros.specs.Formed.{limit}
use Rattle.form_table.specs.Walk.{given, bit}
use Rattle.form_table.specs.ActionWalk.{figures, move_length, literal_length, text_length, move_of, call_as, call_at, called_step, call_step, begin_step, text_spot, text_step}
use Rattle.form_table.specs.ActionWalk.ActionSpot.{behind_action, tag_due, length_due, low_due}
use Rattle.form_table.specs.ActionWalk.ActionState.{action_at}

pick_same : {A : Type 0} (t : Bool) (a : A) → pick t a a ≡ a
unfolding pick
pick_same true a = refl
pick_same false a = refl

pick_small : (b : ℕ) (t : Bool) {x y : ℕ} → x ≤ b → y ≤ b → pick t x y ≤ b
unfolding pick
pick_small b true p q = p
pick_small b false p q = q

figures_most : (n : ℕ) → figures n ≤ 9
unfolding figures
figures_most n =
    pick_small 9 (ltb n 10) (omega arith) (pick_small 9 (ltb n 100) (omega arith) (pick_small 9 (ltb n 1000) (omega arith)
    (pick_small 9 (ltb n 10000) (omega arith) (pick_small 9 (ltb n 100000) (omega arith) (pick_small 9 (ltb n 1000000) (omega arith)
    (pick_small 9 (ltb n 10000000) (omega arith) (pick_small 9 (ltb n 100000000) (omega arith) (omega arith))))))))

pub figures_small : (r n : ℕ) → r ≡ figures n → r ≤ 9
figures_small r n e = omega (arith, figures_most n)

-- CALLS

record Moved (m : ℕ) : Type 0 where
  by : Move
  is : move_of m ≡ some by
  length : move_length by ≡ bit (ltb 0 m)
  stays : is_still by ≡ eqb m 0

moved : (m : ℕ) → m ≤ 4 → Moved m
unfolding move_of pick move_length bit is_still
moved zero h = record { by = still; is = refl; length = refl; stays = refl }
moved (suc zero) h = record { by = before plus; is = refl; length = refl; stays = refl }
moved (suc (suc zero)) h = record { by = before minus; is = refl; length = refl; stays = refl }
moved (suc (suc (suc zero))) h = record { by = after plus; is = refl; length = refl; stays = refl }
moved (suc (suc (suc (suc zero)))) h = record { by = after minus; is = refl; length = refl; stays = refl }
moved (suc (suc (suc (suc (suc m))))) h = absurd (omega arith)

number_set : (cmd : Bool) (n o : ℕ) (k : Mark) (t : Bool) → called_step cmd n (given t (set_to k o 0)) ≡ given t (action_at (n + 5) (low_due (limit k)))
unfolding given called_step call_at
number_set cmd n o k true = refl
number_set cmd n o k false = refl

number_added : (cmd : Bool) (n o : ℕ) (t : Bool) → called_step cmd n (given t (set_increment o 0)) ≡ given t (action_at (n + 5) (low_due (limit counter)))
unfolding given called_step call_at
number_added cmd n o true = refl
number_added cmd n o false = refl

number_divides : (cmd : Bool) (n o : ℕ) (t : Bool) → called_step cmd n (given t (divide o 0)) ≡ given (t && not cmd) (action_at (n + 5) (low_due (limit counter)))
unfolding given called_step call_at
number_divides cmd n o true = refl
number_divides cmd n o false = refl

module _ (cmd : Bool) (n c m o : ℕ) where
  pub call_unmoved : 4 < m → call_step cmd n c o (move_of m) ≡ none
  unfolding move_of pick call_step
  call_unmoved h =
      simp (ne_eqb m 0 (λ p. omega arith), ne_eqb m 1 (λ p. omega arith), ne_eqb m 2 (λ p. omega arith), ne_eqb m 3 (λ p. omega arith), ne_eqb m 4 (λ p. omega arith))

  called : (v : Option Move) → ascii_lower o ≡ false → call_step cmd n c o v ≡ none
  unfolding pick call_step
  called none h = refl
  called (some v) h = rw h

  pub call_below : o < 97 → call_step cmd n c o (move_of m) ≡ none
  unfolding ascii_lower within
  call_below h = called (move_of m) (simp (lt-leb 97 o h))

  pub call_above : 97 ≤ o → 122 < o → call_step cmd n c o (move_of m) ≡ none
  unfolding ascii_lower within
  call_above h g = called (move_of m) (simp (le-leb 97 o h, lt-leb o 122 g))

module _ (cmd : Bool) (n c m o r : ℕ) (four : m ≤ 4) (low : 97 ≤ o) (high : o ≤ 122) (e : r ≡ bit (ltb 0 m)) where
  known : call_step cmd n c o (move_of m) ≡ called_step cmd n (call_as c o (moved m four).by)
  unfolding call_step pick ascii_lower within
  known = rw (moved m four).is (simp (le-leb 97 o low, le-leb o 122 high))

  pub call_insert : c ≡ 6 → call_step cmd n c o (move_of m) ≡ given (not cmd) (action_at (n + 4 + r) (behind_action false))
  unfolding called_step call_as call_at pick
  call_insert p = known ∙ rw (p, e, sym (moved m four).length)

  pub call_count : c ≡ 7 → call_step cmd n c o (move_of m) ≡ given (not cmd) (action_at (n + 4 + r) (behind_action false))
  unfolding called_step call_as call_at pick
  call_count p = known ∙ rw (p, e, sym (moved m four).length)

  pub call_tag : c ≡ 8 → call_step cmd n c o (move_of m) ≡ some (action_at (n + 5 + r) tag_due)
  unfolding called_step call_as call_at pick
  call_tag p = known ∙ rw (p, e, sym (moved m four).length)

  pub call_text_lem : c ≡ 9 → call_step cmd n c o (move_of m) ≡ some (action_at (n + 6 + r) length_due)
  unfolding called_step call_as call_at pick
  call_text_lem p = known ∙ rw (p, e, sym (moved m four).length)

  pub call_pointer : c ≡ 10 → call_step cmd n c o (move_of m) ≡ given (eqb m 0) (action_at (n + 5) (low_due 20))
  unfolding call_as pick limit
  call_pointer p = known ∙ rw (p, (moved m four).stays) (number_set cmd n o stack (eqb m 0))

  pub call_counter : c ≡ 11 → call_step cmd n c o (move_of m) ≡ given (eqb m 0) (action_at (n + 5) (low_due 999999999))
  unfolding call_as pick limit
  call_counter p = known ∙ rw (p, (moved m four).stays) (number_set cmd n o counter (eqb m 0))

  pub call_increment : c ≡ 12 → call_step cmd n c o (move_of m) ≡ given (eqb m 0) (action_at (n + 5) (low_due 999999999))
  unfolding call_as pick limit
  call_increment p = known ∙ rw (p, (moved m four).stays) (number_added cmd n o (eqb m 0))

  pub call_divide : c ≡ 13 → call_step cmd n c o (move_of m) ≡ given (eqb m 0 && not cmd) (action_at (n + 5) (low_due 999999999))
  unfolding call_as pick limit
  call_divide p = known ∙ rw (p, (moved m four).stays) (number_divides cmd n o (eqb m 0))

  pub call_not :
      (c ≡ 6 → ⊥) → (c ≡ 7 → ⊥) → (c ≡ 8 → ⊥) → (c ≡ 9 → ⊥) → (c ≡ 10 → ⊥) → (c ≡ 11 → ⊥) → (c ≡ 12 → ⊥) → (c ≡ 13 → ⊥)
      → call_step cmd n c o (move_of m) ≡ none
  unfolding called_step call_as pick
  call_not a b f g h i k l =
      known ∙ simp (ne_eqb c 6 a, ne_eqb c 7 b, ne_eqb c 8 f, ne_eqb c 9 g, ne_eqb c 10 h, ne_eqb c 11 i, ne_eqb c 12 k, ne_eqb c 13 l)

-- THE FIRST ITEM OF AN ACTION

module _ (n : ℕ) (a : Bool) (o : ℕ) where
  pub literal_some : 1 ≤ o → o ≤ 255 → begin_step false 0 n a 40 o ≡ some (action_at (n + literal_length a o) (behind_action (eqb o 38 || eqb o 35)))
  unfolding begin_step given within pick
  literal_some p q = simp (le-leb 1 o p, le-leb o 255 q)

  pub literal_none : o < 1 → begin_step false 0 n a 40 o ≡ none
  unfolding begin_step given within pick
  literal_none p = simp (lt-leb 1 o p)

module _ (cmd : Bool) (k n : ℕ) (a : Bool) (c o : ℕ) where
  pub begin_literal : c ≡ 40 → cmd ≡ false → begin_step cmd k n a c o ≡ begin_step false 0 n a 40 o
  unfolding begin_step pick
  begin_literal p q = rw (p, q)

  pub begin_tag : c ≡ 41 → cmd ≡ false → begin_step cmd k n a c o ≡ given (within 1 k o) (action_at (n + 2 + figures o) (behind_action false))
  unfolding begin_step pick
  begin_tag p q = rw (p, q)

  pub command_literal : c ≡ 40 → cmd ≡ true → begin_step cmd k n a c o ≡ none
  unfolding begin_step pick given
  command_literal p q = rw (p, q)

  pub command_tag : c ≡ 41 → cmd ≡ true → begin_step cmd k n a c o ≡ none
  unfolding begin_step pick given
  command_tag p q = rw (p, q)

  pub begin_call : (c ≡ 40 → ⊥) → (c ≡ 41 → ⊥) → begin_step cmd k n a c o ≡ call_step cmd n (c / 8) o (move_of (c % 8))
  unfolding begin_step pick
  begin_call f g = simp (ne_eqb c 40 f, ne_eqb c 41 g)

-- TEXTS

module _ (n q c o : ℕ) where
  pub text_zero : c < 1 → text_step n q c o ≡ none
  unfolding text_step given within
  text_zero h = simp (lt-leb 1 c h) (pick_same (eqb q 1) none)

  pub text_odd : q ≡ 1 → 0 < o → 1 ≤ c → c ≤ 255 → text_step n q c o ≡ none
  unfolding text_step given within pick
  text_odd p h g i = rw p (simp (ne_eqb o 0 (λ x. omega arith), le-leb 1 c g, le-leb c 255 i))

  pub text_last : q ≡ 1 → o ≤ 0 → 1 ≤ c → c ≤ 255 → text_step n q c o ≡ some (action_at (n + text_length c) (behind_action false))
  unfolding text_step given within pick
  text_last p h g i = rw p (simp (eq-eqb o 0 (omega arith), le-leb 1 c g, le-leb c 255 i))

  pub text_short : (q ≡ 1 → ⊥) → o < 1 → 1 ≤ c → c ≤ 255 → text_step n q c o ≡ none
  unfolding text_step given within pick
  text_short p h g i = simp (ne_eqb q 1 p, lt-leb 1 o h, le-leb 1 c g, le-leb c 255 i)

  pub text_two : (q ≡ 1 → ⊥) → 1 ≤ o → o ≤ 255 → 1 ≤ c → c ≤ 255 → text_step n q c o ≡ some (action_at (n + text_length c + text_length o) (text_spot (q - 2)))
  unfolding text_step given within pick
  text_two p h h' g i = simp (ne_eqb q 1 p, le-leb 1 o h, le-leb o 255 h', le-leb 1 c g, le-leb c 255 i)

-- One byte or one action more. Assumes nothing.
use Prim.Native.Nat.{ℕ, zero, suc, ◌+◌, ◌-◌, ◌≤◌, ◌<◌}
use mathlib.Core.Path.{◌≡◌, refl, ap, sym, ◌∙◌}
use mathlib.Core.List.{List, [], ◌∷◌, ◌++◌}
use native.Mathlib.Numerals.{add-one}
use mathlib.Core.Bool.{true, false}
use lib.Dec.{eqb}
use native.Mathlib.Omega.{arith}
use lib.ListN.{length, get_or, drop, drop_of_length-le}
use borrow.Author.Tests.{eqb-true, eqb-false}
use lib.Seq.{drop-cons}
use Rattle.macros.specs.Macro.{among}
use Rattle.macros.specs.Write.{text_marks, byte, write_text}
use Rattle.form_table.specs.Actions.{action_size, Held}
use Rattle.form_table.proofs.Actions.{some_size}
use Rattle.write_actions.specs.Items.{action_text, actions_text, Whole}
use Rattle.write_actions.specs.Items.Whole.{none, next}

-- TEXT

pub text_step_lem : (l : List ℕ) (i : ℕ) → i < length l → write_text (drop i l) ≡ byte (among text_marks (get_or l i 0)) (get_or l i 0) ++ write_text (drop (i + 1) l)
unfolding write_text
text_step_lem l i g = rw (add-one, drop-cons l i 0 g)

pub text_end : (l : List ℕ) (i : ℕ) → length l ≤ i → write_text (drop i l) ≡ []
unfolding write_text
text_end l i g = rw (drop_of_length-le l {i = i} g)

-- ACTIONS

-- what is passed over
pub passed : (k : ℕ) (l : List ℕ) → actions_text k l ≡ actions_text 0 (drop k l)
unfolding actions_text
passed zero [] = refl
passed zero (x ∷ l) = refl
passed (suc k) [] = refl
passed (suc k) (x ∷ l) = passed k l

pub actions_cons : (t : List ℕ) → 0 < length t → actions_text 0 t ≡ action_text t ++ actions_text 0 (drop (action_size t) t)
unfolding actions_text
actions_cons [] h = absurd (omega arith)
actions_cons (x ∷ l) h =
    let s : action_size (x ∷ l) ≡ suc (action_size (x ∷ l) - 1) = let z = some_size (x ∷ l) in omega arith in
    ap (λ (r : List ℕ). action_text (x ∷ l) ++ r) (passed (action_size (x ∷ l) - 1) l ∙ ap (λ (k : ℕ). actions_text 0 (drop k (x ∷ l))) (sym s))

pub actions_next : (t : List ℕ) {k : ℕ} → 0 < length t → k ≡ action_size t → actions_text 0 t ≡ action_text t ++ actions_text 0 (drop k t)
actions_next t {k} h e = rw e (actions_cons t h)

pub actions_end : (t : List ℕ) → length t ≡ 0 → actions_text 0 t ≡ []
unfolding actions_text
actions_end [] h = refl
actions_end (x ∷ l) h = absurd (omega arith)

-- an action stands whole where nothing but whole actions do
pub whole_here : {t : List ℕ} → Whole t → 0 < length t → Held t
whole_here none h = absurd (omega arith)
whole_here (next p q w) h = q

pub whole_on : {t : List ℕ} → Whole t → 0 < length t → Whole (drop (action_size t) t)
whole_on none h = absurd (omega arith)
whole_on (next p q w) h = w

-- the test of what is left
pub some_left : {n : ℕ} → false ≡ eqb n 0 → 0 < n
some_left e = let f = eqb-false _ _ (sym e) in omega arith

pub none_left : {n : ℕ} → true ≡ eqb n 0 → n ≡ 0
none_left e = eqb-true _ _ (sym e)

-- One turn of each loop of the check: what is checked, and the check of what is left, make the check of the whole.
use Prim.Native.Nat.{ℕ, zero, suc, ◌+◌, ◌-◌, ◌*◌, ◌≤◌, ◌<◌}
use mathlib.Core.Path.{◌≡◌, refl, sym, ap, ◌∙◌}
use mathlib.Core.Bool.{Bool, true, false, not, ◌&&◌, ◌||◌}
use mathlib.Core.List.{List, [], ◌∷◌}
use native.Mathlib.Nat.{mul-suc}
use native.Mathlib.Numerals.{add-one}
use native.Mathlib.Omega.{arith}
use lib.Dec.{leb, eqb}
use lib.ListN.{length, get_or, take, drop, length-drop}
use lib.Seq.{drop-cons, drop-drop, drop-length, take_all}
use Rattle.form_state.specs.Form.{state_bytes, entries_from, entry_count}
use Rattle.macros.specs.Bounds.{most_entry_bytes}
use Rattle.macros.specs.Macro.{within}
use borrow.Author.Tests.{eq-eqb, ne_eqb}
use Rattle.form_bytes.specs.Fours.{number_at}
use Rattle.form_bytes.proofs.Reading.{number_block}
use Rattle.form_state.specs.Check.{pointers_check, number_check, entry_check, blocks_check, state_checks}
use Rattle.form_state.specs.Access.{text_length}

pub and_assoc : (a b c : Bool) → (a && b) && c ≡ a && (b && c)
and_assoc true b c = refl
and_assoc false b c = refl

pub and_true : (a : Bool) → a && true ≡ a
and_true true = refl
and_true false = refl

three : (a b c d : Bool) → ((a && b) && c) && d ≡ a && ((b && c) && d)
three true b c d = refl
three false b c d = refl

pub pointers_step : (l : List ℕ) (i : ℕ) (ok all : Bool) → i < length l → ok && pointers_check (drop i l) ≡ all
    → ((ok && leb 1 (get_or l i 0)) && leb (get_or l i 0) 20) && pointers_check (drop (i + 1) l) ≡ all
unfolding pointers_check within
pointers_step l i ok all h e =
    rw add-one (three ok (leb 1 (get_or l i 0)) (leb (get_or l i 0) 20) (pointers_check (drop (suc i) l)) ∙ ap (λ (t : List ℕ). ok && pointers_check t) (sym (drop-cons l i 0 h)) ∙ e)

pub pointers_end : (l : List ℕ) (i : ℕ) (ok : Bool) → length l ≡ i → ok && pointers_check (drop i l) ≡ pointers_check l → ok ≡ pointers_check l
unfolding pointers_check
pointers_end l i ok h e =
    sym (and_true ok) ∙ ap (λ (t : List ℕ). ok && pointers_check t) (sym (drop-length l) ∙ ap (λ (n : ℕ). drop n l) h) ∙ e

module _ (f : List ℕ → Bool) (w n : ℕ) (l : List ℕ) where
  pub blocks_start : true && blocks_check f w (n - 0) (drop (w * 0) l) ≡ blocks_check f w n l
  blocks_start =
      let e : n - 0 ≡ n = omega arith in
      let z : w * 0 ≡ 0 = omega arith in
      rw (e, z)

  pub blocks_step : (i : ℕ) (ok all : Bool) → i < n → ok && blocks_check f w (n - i) (drop (w * i) l) ≡ all
      → (ok && f (take w (drop (w * i) l))) && blocks_check f w (n - (i + 1)) (drop (w * (i + 1)) l) ≡ all
  unfolding blocks_check
  blocks_step i ok all h e =
      let less : n - i ≡ suc (n - (i + 1)) = omega arith in
      let on : drop w (drop (w * i) l) ≡ drop (w * (i + 1)) l = drop-drop w (w * i) l ∙ ap (λ (k : ℕ). drop k l) (sym (mul-suc w i) ∙ ap (λ (k : ℕ). w * k) (sym (add-one i))) in
      and_assoc ok (f (take w (drop (w * i) l))) (blocks_check f w (n - (i + 1)) (drop (w * (i + 1)) l))
      ∙ ap (λ (t : List ℕ). ok && (f (take w (drop (w * i) l)) && blocks_check f w (n - (i + 1)) t)) (sym on)
      ∙ ap (λ (k : ℕ). ok && blocks_check f w k (drop (w * i) l)) (sym less)
      ∙ e

  pub blocks_end : (i : ℕ) (ok : Bool) → i ≡ n → ok && blocks_check f w (n - i) (drop (w * i) l) ≡ blocks_check f w n l → ok ≡ blocks_check f w n l
  unfolding blocks_check
  blocks_end i ok h e =
      let none : 0 ≡ n - i = omega arith in
      sym (and_true ok) ∙ ap (λ (k : ℕ). ok && blocks_check f w k (drop (w * i) l)) none ∙ e

pub number_passes : (l : List ℕ) (at : ℕ) (ok : Bool) (n : ℕ) → n ≡ number_at l at → (ok && leb 1 n) && leb n 999999999 ≡ ok && number_check (take 4 (drop at l))
unfolding number_check within
number_passes l at ok n e = and_assoc ok (leb 1 n) (leb n 999999999) ∙ ap (λ (k : ℕ). ok && (leb 1 k && leb k 999999999)) (e ∙ sym (number_block l at))

short : (l : List ℕ) → length l ≤ 1 → entry_check l ≡ true
unfolding entry_check
short [] h = refl
short (a ∷ []) h = refl
short (a ∷ b ∷ l) h = absurd (omega arith)

pub entry_step : (l : List ℕ) (i : ℕ) (ok all : Bool) → 1 ≤ i → i < length l → ok && entry_check (drop (i - 1) l) ≡ all
    → (ok && (not (eqb (get_or l (i - 1) 0) 0) || eqb (get_or l i 0) 0)) && entry_check (drop (i + 1 - 1) l) ≡ all
unfolding entry_check
entry_step l zero ok all one h e = absurd (omega arith)
entry_step l (suc j) ok all one h e =
    let before : suc j - 1 ≡ j = omega arith in
    let here : suc j + 1 - 1 ≡ suc j = omega arith in
    let inside : j < length l = omega arith in
    let cut : drop j l ≡ get_or l j 0 ∷ get_or l (suc j) 0 ∷ drop (suc (suc j)) l = drop-cons l j 0 inside ∙ ap (λ (t : List ℕ). get_or l j 0 ∷ t) (drop-cons l (suc j) 0 h) in
    let rest : drop (suc j) l ≡ get_or l (suc j) 0 ∷ drop (suc (suc j)) l = drop-cons l (suc j) 0 h in
    rw (here, before)
    (and_assoc ok (not (eqb (get_or l j 0) 0) || eqb (get_or l (suc j) 0) 0) (entry_check (drop (suc j) l))
    ∙ ap (λ (t : List ℕ). ok && ((not (eqb (get_or l j 0) 0) || eqb (get_or l (suc j) 0) 0) && entry_check t)) rest
    ∙ ap (λ (t : List ℕ). ok && entry_check t) (sym cut)
    ∙ rw before at e)

pub entry_end : (l : List ℕ) (i : ℕ) (ok : Bool) → 1 ≤ i → length l ≤ i → ok && entry_check (drop (i - 1) l) ≡ entry_check l → ok ≡ entry_check l
entry_end l i ok one h e =
    sym (and_true ok) ∙ ap (λ (t : Bool). ok && t) (sym (short (drop (i - 1) l) (omega (arith, length-drop (i - 1) l)))) ∙ e

five : (a b p n e : Bool) → (((a && b) && p) && n) && e ≡ a && (b && (p && (n && e)))
five a b p n e = simp and_assoc

pub other_length : (l : List ℕ) → (length l ≡ state_bytes → ⊥) → false ≡ state_checks l
unfolding state_checks
other_length l h = rw (ne_eqb (length l) state_bytes h)

pub passes : (l : List ℕ) (p n e : Bool) → length l ≡ state_bytes → p ≡ pointers_check (take 26 (drop 2 l)) → n ≡ blocks_check number_check 4 52 (take 208 (drop 28 l))
    → e ≡ blocks_check entry_check most_entry_bytes entry_count (take (length l - entries_from) (drop entries_from l)) → (((leb (get_or l 0 0) 1 && leb (get_or l 1 0) 1) && p) && n) && e ≡ state_checks l
unfolding state_checks
passes l p n e h hp hn he =
    let all : take (length l - entries_from) (drop entries_from l) ≡ drop entries_from l = take_all (length l - entries_from) (drop entries_from l) (omega (arith, length-drop entries_from l)) in
    rw (eq-eqb (length l) state_bytes h) (five (leb (get_or l 0 0) 1) (leb (get_or l 1 0) 1) p n e
    ∙ ap (λ (t : Bool). leb (get_or l 0 0) 1 && (leb (get_or l 1 0) 1 && (t && (n && e)))) hp
    ∙ ap (λ (t : Bool). leb (get_or l 0 0) 1 && (leb (get_or l 1 0) 1 && (pointers_check (take 26 (drop 2 l)) && (t && e)))) hn
    ∙ ap (λ (t : Bool). leb (get_or l 0 0) 1 && (leb (get_or l 1 0) 1 && (pointers_check (take 26 (drop 2 l)) && (blocks_check number_check 4 52 (take 208 (drop 28 l)) && t))))
    (he ∙ ap (blocks_check entry_check most_entry_bytes entry_count) all))

-- the text in front of the first 0

pub text_none : text_length [] ≡ 0
unfolding text_length
text_none = refl

pub text_hit : (x : ℕ) (l : List ℕ) → x ≡ 0 → text_length (x ∷ l) ≡ 0
unfolding text_length
text_hit zero l z = refl
text_hit (suc x) l z = absurd (omega arith)

pub text_miss : (x : ℕ) (l : List ℕ) → (x ≡ 0 → ⊥) → text_length (x ∷ l) ≡ text_length l + 1
unfolding text_length
text_miss zero l z = absurd (z refl)
text_miss (suc x) l z = sym (add-one (text_length l))

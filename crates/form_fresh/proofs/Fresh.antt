-- The fresh state's bytes as they are stored: the numbers one by one, and the form of the whole.
use Prim.Native.Nat.{ℕ, zero, suc, ◌+◌, ◌-◌, ◌*◌, ◌≤◌, ◌<◌}
use mathlib.Core.Path.{◌≡◌, refl, sym, ap, ◌∙◌}
use mathlib.Core.List.{List, [], ◌∷◌, ◌++◌, append_assoc, append-nil}
use native.Mathlib.Nat.{mul-suc, add_comm, zero-add, suc-add}
use native.Mathlib.Omega.{arith}
use lib.ListN.{length, replicate, length-append, length-replicate, replicate-append-replicate}
use Rattle.form_state.specs.Form.{stack_bytes, stacks_bytes, state_bytes, entries_from}
use Rattle.macros.specs.Bounds.{most_entry_bytes}
use Rattle.form_bytes.specs.Fours.{four}
use Rattle.lines.specs.State.{fresh, fresh_stack, fresh_counter}
use Rattle.form_state.specs.Form.{pointers_form, values_form, increments_form, entry_form_by, entries_form, stacks_form, state_form}
use Rattle.form_state.specs.Form.{entries_form_by, stacks_form_by, state_form_by}
use Rattle.form_state.specs.Access.{replaced}
use Rattle.form_state.proofs.Replaced.{replaced_left, replaced_right, replaced_whole, replaced_behind}
use Rattle.form_fresh.specs.Ones.{ones}

length_ones : (n : ℕ) → length (ones n) ≡ 4 * n
unfolding ones four
length_ones zero = refl
length_ones (suc n) = let h : length (ones n) ≡ 4 * n = length_ones n in omega arith

ones_append : (n m : ℕ) → ones n ++ ones m ≡ ones (n + m)
unfolding ones
ones_append zero m = rw (zero-add m)
ones_append (suc n) m = rw (suc-add n m) (append_assoc (four 1) (ones n) (ones m) ∙ ap (λ (t : List ℕ). four 1 ++ t) (ones_append n m))

one_one : ones 1 ≡ four 1
unfolding ones
one_one = append-nil (four 1)

-- the next number 1
pub ones_more : (b s e : List ℕ) (i : ℕ) → i < 52 → entries_from ≤ length b → s ≡ replaced b 28 (ones i) → e ≡ replaced s (28 + 4 * i) (four 1) → e ≡ replaced b 28 (ones (i + 1))
ones_more b s e i h fit hs he =
    let lv : length (ones i) ≡ 4 * i = length_ones i in
    let on : 28 + 4 * i ≡ 28 + length (ones i) = omega arith in
    he
    ∙ ap (λ (t : List ℕ). replaced t (28 + 4 * i) (four 1)) hs
    ∙ replaced_behind b 28 (28 + 4 * i) (ones i) (four 1) on (omega arith)
    ∙ ap (replaced b 28) (ap (λ (t : List ℕ). ones i ++ t) (sym one_one) ∙ ones_append i 1)

-- THE FORM

pointers_ones : (n : ℕ) → pointers_form (replicate n fresh_stack) ≡ replicate n 1
unfolding pointers_form fresh_stack
pointers_ones zero = refl
pointers_ones (suc n) = ap (λ (t : List ℕ). 1 ∷ t) (pointers_ones n)

values_ones : (n : ℕ) → values_form (replicate n fresh_counter) ≡ ones n
unfolding values_form fresh_counter ones
values_ones zero = refl
values_ones (suc n) = rw (values_ones n)

increments_ones : (n : ℕ) → increments_form (replicate n fresh_counter) ≡ ones n
unfolding increments_form fresh_counter ones
increments_ones zero = refl
increments_ones (suc n) = rw (increments_ones n)

run : (w n : ℕ) → replicate w 0 ++ replicate (w * n) 0 ≡ replicate {A = ℕ} (w * suc n) 0
run w n = replicate-append-replicate w (w * n) 0 ∙ ap (λ (k : ℕ). replicate k 0) (add_comm w (w * n) ∙ sym (mul-suc w n))

entries_zero : (n : ℕ) → entries_form (replicate n []) ≡ replicate (most_entry_bytes * n) 0
unfolding entries_form_by entry_form_by
entries_zero zero = refl
entries_zero (suc n) = ap (λ (t : List ℕ). replicate most_entry_bytes 0 ++ t) (entries_zero n) ∙ run most_entry_bytes n

stack_zero : entries_form fresh_stack.entries ≡ replicate stack_bytes 0
unfolding fresh_stack
stack_zero = entries_zero 20

stacks_zero : (n : ℕ) → stacks_form (replicate n fresh_stack) ≡ replicate (stack_bytes * n) 0
unfolding stacks_form_by
stacks_zero zero = refl
stacks_zero (suc n) = ap (λ (t : List ℕ). t ++ stacks_form (replicate n fresh_stack)) stack_zero ∙ ap (λ (t : List ℕ). replicate stack_bytes 0 ++ t) (stacks_zero n) ∙ run stack_bytes n

-- zeros, then u and o behind the first two of them, w bytes together
stored : (w m : ℕ) (b u o : List ℕ) → length b ≡ 2 + (w + m) → length u ≡ 26 → length (u ++ o) ≡ w
    → replaced (replaced (replaced b 0 (replicate (length b) 0)) 2 u) 28 o ≡ 0 ∷ 0 ∷ ((u ++ o) ++ replicate m 0)
stored w m b u o h hu both =
    let z : List ℕ = replicate w 0 ++ replicate m 0 in
    let sum : length (u ++ o) ≡ length u + length o = length-append u o in
    let front : length {A = ℕ} (replicate w 0) ≡ w = length-replicate {A = ℕ} w 0 in
    let zeros : replaced b 0 (replicate (length b) 0) ≡ (0 ∷ 0 ∷ []) ++ z =
    replaced_whole b (replicate (length b) 0) (sym (length-replicate {A = ℕ} (length b) 0))
    ∙ ap (λ (k : ℕ). replicate k 0) h
    ∙ sym (ap (λ (t : List ℕ). (0 ∷ 0 ∷ []) ++ t) (replicate-append-replicate w m 0) ∙ replicate-append-replicate 2 (w + m) 0) in
    let long : length z ≡ w + m = length-append (replicate w 0) (replicate m 0) ∙ omega (arith, length-replicate {A = ℕ} m 0) in
    let all : length ((0 ∷ 0 ∷ []) ++ z) ≡ 2 + (w + m) = omega arith in
    ap (λ (t : List ℕ). replaced (replaced t 2 u) 28 o) zeros
    ∙ replaced_behind ((0 ∷ 0 ∷ []) ++ z) 2 28 u o (omega arith) (omega arith)
    ∙ replaced_right (0 ∷ 0 ∷ []) z 2 0 (u ++ o) refl
    ∙ ap (λ (t : List ℕ). 0 ∷ 0 ∷ t)
    (replaced_left (replicate w 0) (replicate m 0) 0 (u ++ o) (omega arith) ∙ ap (λ (t : List ℕ). t ++ replicate m 0) (replaced_whole (replicate w 0) (u ++ o) (omega arith)))

form : state_form fresh ≡ 0 ∷ 0 ∷ ((replicate 26 1 ++ ones 52) ++ replicate stacks_bytes 0)
unfolding state_form_by fresh
form =
    ap (λ (t : List ℕ). 0 ∷ 0 ∷ t)
    (ap (λ (t : List ℕ). t ++ (values_form (replicate 26 fresh_counter) ++ (increments_form (replicate 26 fresh_counter) ++ stacks_form (replicate 26 fresh_stack)))) (pointers_ones 26)
    ∙ ap (λ (t : List ℕ). replicate 26 1 ++ (t ++ (increments_form (replicate 26 fresh_counter) ++ stacks_form (replicate 26 fresh_stack)))) (values_ones 26)
    ∙ ap (λ (t : List ℕ). replicate 26 1 ++ (ones 26 ++ (t ++ stacks_form (replicate 26 fresh_stack)))) (increments_ones 26)
    ∙ ap (λ (t : List ℕ). replicate 26 1 ++ t) (sym (append_assoc (ones 26) (ones 26) (stacks_form (replicate 26 fresh_stack))) ∙ ap (λ (t : List ℕ). t ++ stacks_form (replicate 26 fresh_stack)) (ones_append 26 26))
    ∙ sym (append_assoc (replicate 26 1) (ones 52) (stacks_form (replicate 26 fresh_stack)))
    ∙ ap (λ (t : List ℕ). (replicate 26 1 ++ ones 52) ++ t) (stacks_zero 26))

pub fresh_stored : (b z p e : List ℕ) → length b ≡ state_bytes → z ≡ replaced b 0 (replicate (length b) 0) → p ≡ replaced z 2 (replicate (28 - 2) 1) → e ≡ replaced p 28 (ones 52) → e ≡ state_form fresh
fresh_stored b z p e h hz hp he =
    he
    ∙ ap (λ (t : List ℕ). replaced t 28 (ones 52)) (hp ∙ ap (λ (t : List ℕ). replaced t 2 (replicate 26 1)) hz)
    ∙ stored 234 stacks_bytes b (replicate 26 1) (ones 52) h (length-replicate {A = ℕ} 26 1) (length-append (replicate 26 1) (ones 52) ∙ ap (λ (k : ℕ). 26 + k) (length_ones 52))
    ∙ sym form

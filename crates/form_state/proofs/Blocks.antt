-- What checking a stack at a time rests on: blocks of blocks are checked as the blocks are, and zeros pass.
use Prim.Native.Nat.{ℕ, zero, suc, ◌+◌, ◌-◌, ◌*◌, ◌≤◌}
use mathlib.Core.Path.{◌≡◌, refl, sym, ap, ◌∙◌}
use mathlib.Core.Bool.{Bool, true, false, not, ◌&&◌, ◌||◌}
use mathlib.Core.List.{List, [], ◌∷◌}
use native.Mathlib.Nat.{add_comm, suc-add, zero-add, mul-suc, mul-zero}
use native.Mathlib.Omega.{arith}
use lib.Dec.{eqb}
use lib.ListN.{take, drop}
use lib.Seq.{drop-drop, take-nil, take-take}
use Rattle.macros.proofs.Tests.{and_left, and_right}
use Rattle.form_bytes.specs.Zeros.{all_zero}
use Rattle.form_state.specs.Check.{entry_check, blocks_check}
use Rattle.form_state.proofs.Steps.{and_assoc}

drop_take : (w m : ℕ) (l : List ℕ) → drop w (take (w + m) l) ≡ take m (drop w l)
drop_take zero m l = rw (zero-add m)
drop_take (suc w) m [] = rw (suc-add w m) (sym (take-nil m))
drop_take (suc w) m (x ∷ l) = rw (suc-add w m) (drop_take w m l)

module _ (f : List ℕ → Bool) (w : ℕ) where
  -- only the blocks' own bytes are looked at
  inside : (n p m : ℕ) (l : List ℕ) → w * n ≡ p → p ≤ m → blocks_check f w n (take m l) ≡ blocks_check f w n l
  unfolding blocks_check
  inside zero p m l e h = refl
  inside (suc n) p m l e h =
      let one : p ≡ w * n + w = sym e ∙ mul-suc w n in
      let cut : w + (m - w) ≡ m = omega arith in
      ap (λ (t : List ℕ). f t && blocks_check f w n (drop w (take m l))) (take-take w m l (omega arith))
      ∙ ap (λ (t : List ℕ). f (take w l) && blocks_check f w n t) (ap (λ (k : ℕ). drop w (take k l)) (sym cut) ∙ drop_take w (m - w) l)
      ∙ ap (λ (t : Bool). f (take w l) && t) (inside n (w * n) (m - w) (drop w l) refl (omega arith))

  -- the first blocks, and the others
  join : (a b : ℕ) (l : List ℕ) → blocks_check f w (a + b) l ≡ blocks_check f w a l && blocks_check f w b (drop (w * a) l)
  unfolding blocks_check
  join zero b l = rw (zero-add b, mul-zero w)
  join (suc a) b l =
      let on : drop (w * a) (drop w l) ≡ drop (w * suc a) l = drop-drop (w * a) w l ∙ ap (λ (k : ℕ). drop k l) (add_comm w (w * a) ∙ sym (mul-suc w a)) in
      ap (λ (k : ℕ). blocks_check f w k l) (suc-add a b)
      ∙ ap (λ (t : Bool). f (take w l) && t) (join a b (drop w l) ∙ ap (λ (t : List ℕ). blocks_check f w a (drop w l) && blocks_check f w b t) on)
      ∙ sym (and_assoc (f (take w l)) (blocks_check f w a (drop w l)) (blocks_check f w b (drop (w * suc a) l)))

  -- blocks of n blocks each
  pub blocks_of : (n k : ℕ) (l : List ℕ) → blocks_check (blocks_check f w n) (w * n) k l ≡ blocks_check f w (n * k) l
  unfolding blocks_check
  blocks_of n zero l = rw (mul-zero n)
  blocks_of n (suc k) l =
      ap (λ (t : Bool). t && blocks_check (blocks_check f w n) (w * n) k (drop (w * n) l)) (inside n (w * n) (w * n) l refl (omega arith))
      ∙ ap (λ (t : Bool). blocks_check f w n l && t) (blocks_of n k (drop (w * n) l))
      ∙ sym (join n (n * k) l)
      ∙ ap (λ (j : ℕ). blocks_check f w j l) (add_comm n (n * k) ∙ sym (mul-suc n k))

zeros_take : (n : ℕ) (l : List ℕ) → all_zero l ≡ true → all_zero (take n l) ≡ true
unfolding all_zero
zeros_take zero l e = refl
zeros_take (suc n) [] e = refl
zeros_take (suc n) (b ∷ l) e = rw (and_left (eqb b 0) (all_zero l) e) (zeros_take n l (and_right (eqb b 0) (all_zero l) e))

zeros_drop : (n : ℕ) (l : List ℕ) → all_zero l ≡ true → all_zero (drop n l) ≡ true
unfolding all_zero
zeros_drop zero l e = e
zeros_drop (suc n) [] e = e
zeros_drop (suc n) (b ∷ l) e = zeros_drop n l (and_right (eqb b 0) (all_zero l) e)

or_true : (a : Bool) → a || true ≡ true
or_true true = refl
or_true false = refl

-- an entry of zeros is empty
zeros_entry : (l : List ℕ) → all_zero l ≡ true → entry_check l ≡ true
unfolding all_zero entry_check
zeros_entry [] e = refl
zeros_entry (a ∷ []) e = refl
zeros_entry (a ∷ b ∷ l) e =
    let rest : all_zero (b ∷ l) ≡ true = and_right (eqb a 0) (all_zero (b ∷ l)) e in
    rw (and_left (eqb b 0) (all_zero l) rest, or_true (not (eqb a 0))) (zeros_entry (b ∷ l) rest)

-- entries of zeros pass
pub zeros_pass : (w n : ℕ) (l : List ℕ) → all_zero l ≡ true → blocks_check entry_check w n l ≡ true
unfolding blocks_check
zeros_pass w zero l e = refl
zeros_pass w (suc n) l e = rw (zeros_entry (take w l) (zeros_take w l e)) (zeros_pass w n (drop w l) (zeros_drop w l e))

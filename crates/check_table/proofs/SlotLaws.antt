-- A slot, and a slot more, by what the code found. Assumes nothing.
use Prim.Native.Nat.{ℕ, suc, ◌+◌, ◌*◌, ◌-◌, ◌≤◌, ◌<◌}
use mathlib.Core.Path.{◌≡◌, sym, ap, ◌∙◌}
use mathlib.Core.Bool.{true, false, ◌&&◌}
use mathlib.Core.List.{List}
use native.Mathlib.Nat.{add-zero}
use native.Mathlib.Omega.{arith}
use borrow.Author.Tests.{eq-eqb, ne_eqb, le-leb, lt-leb}
use lib.Dec.{leb}
use lib.ListN.{length, get_or, take, drop, length-drop}
use lib.Seq.{take_all, get_or-drop, drop-drop}
use Rattle.macros.specs.Macro.{within}
use Rattle.form_bytes.specs.Zeros.{all_zero}
use Rattle.form_table.specs.Form.{slot_bytes, header_bytes, body_bytes}
use Rattle.form_table.specs.Check.{items_fit, two_at, items_at, parts_fit, slot_fits, slots_fit, checks}

-- what a part without an end has
rest : (s : List ℕ) (m : ℕ) → take (length s - m) (drop m s) ≡ drop m s
rest s m = take_all (length s - m) (drop m s) (simp length-drop (omega arith))

-- A SLOT

module _ (s : List ℕ) (b p r c : ℕ) (before : b ≡ two_at s 2) (pattern : p ≡ two_at s 4) (replacement : r ≡ two_at s 6) (commands : c ≡ two_at s 8)
    (symbol : within 1 2 (get_or s 0 0) ≡ true) where
  parts : slot_fits s ≡ parts_fit s b p r c
  unfolding slot_fits
  parts = rw (symbol, before, pattern, replacement, commands)

  pub slot_long : slot_bytes < header_bytes + b + p + r + c → slot_fits s ≡ false
  unfolding parts_fit
  slot_long h = parts ∙ rw (lt-leb (b + p + r + c) body_bytes (omega arith))

  module _ (h : header_bytes + b + p + r + c ≤ slot_bytes) where
    few : leb (b + p + r + c) body_bytes ≡ true
    few = le-leb (b + p + r + c) body_bytes (omega arith)

    pub slot_tail : all_zero (take (length s - (header_bytes + b + p + r + c)) (drop (header_bytes + b + p + r + c) s)) ≡ false → slot_fits s ≡ false
    unfolding parts_fit
    slot_tail z = parts ∙ rw (few, ap all_zero (sym (rest s (header_bytes + b + p + r + c))) ∙ z)

    -- what the code takes for the items at a place
    items : (at n k : ℕ) → at ≡ header_bytes + n → take (at + k - at) (drop at s) ≡ items_at s n k
    unfolding items_at
    items at n k e = let f : at + k - at ≡ k = omega arith in rw (f, e)

    pub slot_items :
        all_zero (take (length s - (header_bytes + b + p + r + c)) (drop (header_bytes + b + p + r + c) s)) ≡ true
        → items_fit (get_or s 1 0)
        (take (header_bytes + b - header_bytes) (drop header_bytes s))
        (take (header_bytes + b + p - (header_bytes + b)) (drop (header_bytes + b) s))
        (take (header_bytes + b + p + r - (header_bytes + b + p)) (drop (header_bytes + b + p) s))
        (take (header_bytes + b + p + r + c - (header_bytes + b + p + r)) (drop (header_bytes + b + p + r) s))
        ≡ slot_fits s
    unfolding parts_fit
    slot_items z =
        rw (
          items header_bytes 0 b (omega arith),
          items (header_bytes + b) b p (omega arith),
          items (header_bytes + b + p) (b + p) r (omega arith),
          items (header_bytes + b + p + r) (b + p + r) c (omega arith),
        )
        (sym (parts ∙ rw (few, ap all_zero (sym (rest s (header_bytes + b + p + r + c))) ∙ z)))

-- SLOTS

unused : (j : ℕ) (b : List ℕ) → get_or b 0 0 ≡ 0 → slots_fit (suc j) b ≡ all_zero b
unfolding slots_fit
unused j b e = rw (slots_fit, eq-eqb (get_or b 0 0) 0 e)

used : (j : ℕ) (b : List ℕ) → (get_or b 0 0 ≡ 0 → ⊥) → slots_fit (suc j) b ≡ slot_fits (take 1024 b) && slots_fit j (drop 1024 b)
unfolding slots_fit
used j b n = rw (slots_fit, ne_eqb (get_or b 0 0) 0 n)

module _ (t : List ℕ) (k : ℕ) (below : k < 96) where
  head : get_or (drop (1024 * k) t) 0 0 ≡ get_or t (1024 * k) 0
  head = get_or-drop (1024 * k) t 0 0 ∙ ap (λ (x : ℕ). get_or t x 0) (add-zero (1024 * k))

  more : (b : List ℕ) → slots_fit (96 - k) b ≡ slots_fit (suc (95 - k)) b
  more b = ap (λ (x : ℕ). slots_fit x b) (let z : 96 - k ≡ suc (95 - k) = omega arith in z)

  taken : take (1024 * k + 1024 - 1024 * k) (drop (1024 * k) t) ≡ take 1024 (drop (1024 * k) t)
  taken = ap (λ (x : ℕ). take x (drop (1024 * k) t)) (let z : 1024 * k + 1024 - 1024 * k ≡ 1024 = omega arith in z)

  pub slots_unused : get_or t (1024 * k) 0 ≡ 0 → slots_fit (96 - k) (drop (1024 * k) t) ≡ all_zero (take (length t - 1024 * k) (drop (1024 * k) t))
  slots_unused e = more (drop (1024 * k) t) ∙ unused (95 - k) (drop (1024 * k) t) (head ∙ e) ∙ ap all_zero (sym (rest t (1024 * k)))

  pub slots_refused :
      (get_or t (1024 * k) 0 ≡ 0 → ⊥) → slot_fits (take (1024 * k + 1024 - 1024 * k) (drop (1024 * k) t)) ≡ false → slots_fit (96 - k) (drop (1024 * k) t) ≡ false
  slots_refused n e = more (drop (1024 * k) t) ∙ used (95 - k) (drop (1024 * k) t) (λ z. n (sym head ∙ z)) ∙ rw (sym (ap slot_fits taken) ∙ e)

  pub slots_next :
      (get_or t (1024 * k) 0 ≡ 0 → ⊥) → slot_fits (take (1024 * k + 1024 - 1024 * k) (drop (1024 * k) t)) ≡ true
      → slots_fit (96 - k) (drop (1024 * k) t) ≡ slots_fit (96 - (k + 1)) (drop (1024 * (k + 1)) t)
  slots_next n e =
      let f : 95 - k ≡ 96 - (k + 1) = omega arith in
      let g : 1024 * k + 1024 ≡ 1024 * (k + 1) = omega arith in
      more (drop (1024 * k) t) ∙ used (95 - k) (drop (1024 * k) t) (λ z. n (sym head ∙ z)) ∙ rw (sym (ap slot_fits taken) ∙ e, drop-drop 1024 (1024 * k) t, f, g)

pub slots_done : (k : ℕ) (b : List ℕ) → k ≤ 96 → 96 ≤ k → slots_fit (96 - k) b ≡ true
unfolding slots_fit
slots_done k b h g = rw (let z : 96 - k ≡ 0 = omega arith in z)

pub checks_length : (b : List ℕ) → length b ≡ 98304 → checks b ≡ slots_fit 96 b
unfolding checks
checks_length b e = rw (eq-eqb (length b) 98304 e)

pub checks_other : (b : List ℕ) → (length b ≡ 98304 → ⊥) → checks b ≡ false
unfolding checks
checks_other b n = rw (ne_eqb (length b) 98304 n)

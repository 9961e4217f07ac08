-- Copying bytes over others, and a text with zeros behind it.
-- Assumes nothing.
use Prim.Native.Nat.{ℕ, ◌+◌, ◌-◌, ◌≤◌, ◌<◌}
use mathlib.Core.Path.{◌≡◌, sym, ap, ◌∙◌}
use mathlib.Core.List.{List, ◌++◌, append-nil}
use native.Mathlib.Nat.{zero-add}
use native.Mathlib.Numerals.{add-one}
use native.Mathlib.Omega.{arith}
use lib.ListN.{length, get_or, take, drop, set, replicate, length-append, length-replicate}
use lib.Seq.{paste, paste-suc, take_at, take-length}
use Rattle.line_memory.specs.Memory.{padded}

-- THE LOOP that copies

pub copy_more : (d s t : List ℕ) (i : ℕ) → i < length s → length s ≤ length d → t ≡ paste d 0 s i → set t i (get_or s i 0) ≡ paste d 0 s (i + 1)
copy_more d s t i h fit e =
    ap (λ (x : List ℕ). set x i (get_or s i 0)) e
    ∙ ap (λ (k : ℕ). set (paste d 0 s i) k (get_or s i 0)) (sym (zero-add i))
    ∙ paste-suc d 0 s i 0 (omega arith) h
    ∙ ap (λ (k : ℕ). paste d 0 s k) (sym (add-one i))

pub copy_end : (d s t : List ℕ) (i : ℕ) → i ≡ length s → t ≡ paste d 0 s i → t ≡ s ++ drop (length s) d
copy_end d s t i h e =
    e
    ∙ ap (λ (k : ℕ). paste d 0 s k) h
    ∙ ap (λ (k : ℕ). take (length s) s ++ drop k d) (zero-add (length s))
    ∙ ap (λ (x : List ℕ). x ++ drop (length s) d) (take-length s)

-- A MEMORY THAT HOLDS A TEXT

-- with no room behind it
pub padded_whole : (s : List ℕ) (n : ℕ) {t : List ℕ} → length s ≡ n → t ≡ padded s n → t ≡ s
padded_whole s n h e =
    let z : n - length s ≡ 0 = omega arith in
    e ∙ (ap (λ (k : ℕ). s ++ replicate k 0) z ∙ append-nil s)

-- the first bytes are the text
pub padded_front : (s : List ℕ) (n k : ℕ) {t : List ℕ} → length s ≡ k → t ≡ padded s n → take k t ≡ s
padded_front s n k h e = ap (take k) e ∙ take_at s (replicate (n - length s) 0) k h

-- its size
pub padded_size : (s : List ℕ) (n : ℕ) {t : List ℕ} → length s ≤ n → t ≡ padded s n → length t ≡ n
padded_size s n h e = ap length e ∙ (length-append s (replicate (n - length s) 0) ∙ omega (arith, length-replicate {A = ℕ} (n - length s) 0))

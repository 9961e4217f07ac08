-- A text is copied, byte by byte.
use Prim.Native.Nat.{ℕ, ◌+◌, ◌<◌}
use mathlib.Core.Path.{◌≡◌, sym, ap, ◌∙◌}
use mathlib.Core.List.{List}
use native.Mathlib.Numerals.{add-one}
use lib.ListN.{length, get_or, set}
use lib.Seq.{paste, paste-suc}

-- a copy, one byte more: of the place j to the place k
pub copy_next : (old out bytes : List ℕ) (at i k j : ℕ) → out ≡ paste old at bytes i → at + i < length old → i < length bytes → k ≡ at + i → j ≡ i → set out k (get_or bytes j 0) ≡ paste old at bytes (i + 1)
copy_next old out bytes at i k j e h l p q = rw (p, q) (ap (λ (x : List ℕ). set x (at + i) (get_or bytes i 0)) e ∙ paste-suc old at bytes i 0 h l ∙ ap (λ (n : ℕ). paste old at bytes n) (sym (add-one i)))

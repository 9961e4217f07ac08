-- One item more. Assumes nothing.
use Prim.Native.Nat.{ℕ, ◌<◌}
use mathlib.Core.Path.{◌≡◌, refl}
use mathlib.Core.List.{List, [], ◌∷◌, ◌++◌}
use native.Mathlib.Omega.{arith}
use lib.Dec.{ltb}
use lib.ListN.{length, get_or}
use Rattle.macros.specs.Macro.{pick}
use Rattle.write_pattern.specs.Items.{item_text, pattern_text}

-- the next item is x
pub pattern_more : (l x rest : List ℕ) (held : ℕ) {h : ℕ} → length x ≡ 2 → l ≡ x ++ rest → h ≡ pick (ltb (get_or x 0 0) 32) (get_or x 0 0) held
    → pattern_text held l ≡ item_text held (get_or x 0 0) (get_or x 1 0) ++ pattern_text h rest
unfolding pattern_text
pattern_more l [] rest held g e q = absurd (omega arith)
pattern_more l (a ∷ []) rest held g e q = absurd (omega arith)
pattern_more l (a ∷ b ∷ []) rest held g e q = rw (e, q)
pattern_more l (a ∷ b ∷ c ∷ x) rest held g e q = absurd (omega arith)

-- no item is left
pub pattern_end_lem : (l : List ℕ) (held : ℕ) → length l < 2 → pattern_text held l ≡ []
unfolding pattern_text
pattern_end_lem [] held g = refl
pattern_end_lem (a ∷ []) held g = refl
pattern_end_lem (a ∷ b ∷ l) held g = absurd (omega arith)

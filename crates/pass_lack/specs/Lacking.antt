-- Which bytes a line has, and a pattern that must have another one.
use Rattle.std.specs.Prelude.{ℕ, ◌≤◌, Bool, true, false, not, ◌≡◌, ◌⊎◌, List, [], ◌∷◌, eqb, ltb, length, get_or, set, replicate}
use Rattle.macros.specs.Macro.{pick}

-- the flags with those of the bytes of a text
unfoldable pub flagged : List ℕ → List ℕ → List ℕ
flagged flags [] = flags
flagged flags (b ∷ t) = flagged (set flags b 1) t

-- a flag for each byte that there is, 1 if the text has it
abbrev pub flags_of : List ℕ → List ℕ
flags_of t = flagged (replicate 256 0) t

-- the item is a literal that must stand, once or more (codes 8 and 9), and its flag is 0
pub record Absent (flags : List ℕ) (c b : ℕ) : Type 0 where
  pub least : 8 ≤ c
  pub most : c ≤ 9
  pub flag : get_or flags b 0 ≡ 0

-- one of the items, two bytes each, is such a literal
abbrev pub SomeAbsent : List ℕ → List ℕ → Type 0
SomeAbsent flags [] = ⊥
SomeAbsent flags (c ∷ []) = ⊥
SomeAbsent flags (c ∷ b ∷ l) = Absent flags c b ⊎ SomeAbsent flags l

-- whether what the first item asks is not at the place p: place 0 for `^` (code 3), its byte for a literal that must stand
unfoldable pub differs_in : List ℕ → List ℕ → ℕ → Bool
differs_in items t p =
    pick (ltb (length items) 2) false
    (pick (eqb (get_or items 0 0) 3) (ltb 0 p)
    (pick (ltb (get_or items 0 0) 8) false
    (pick (ltb 9 (get_or items 0 0)) false
    (pick (ltb p (length t)) (not (eqb (get_or items 1 0) (get_or t p 0))) true))))

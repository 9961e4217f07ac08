-- With which bytes a macro begins: with its first quote or, by N2 of 02, with the `&(` or `#(` of a call before its pattern.
use Rattle.std.specs.Prelude.{◌≡◌, ℕ, List, [], ◌∷◌, ◌++◌}
use Prim.Native.Char.{code}
use Rattle.macros.specs.Macro.{Mark, mark_byte}

-- no byte is `/`
abbrev pub NoSlash : List ℕ → Type 0
NoSlash [] = Unit {0}
NoSlash (b ∷ t) = (b ≡ code "/" → ⊥) × NoSlash t

-- a skip over the bytes t
abbrev pub skip_over : List ℕ → List ℕ
skip_over t = code "/" ∷ (t ++ (code "/" ∷ []))

-- skips, one behind the other, or none
pub data Skipped : List ℕ → Type 0 where
  no_skip : Skipped []
  a_skip : (t u : List ℕ) → NoSlash t → Skipped u → Skipped (skip_over t ++ u)

-- the `&(` or `#(` of a call: skips may stand between the two bytes
abbrev pub call_sign : Mark → (u : List ℕ) → List ℕ
call_sign m u = mark_byte m ∷ (u ++ (code "(" ∷ []))

-- the bytes with which a macro begins
pub data Opening : List ℕ → Type 0 where
  by_quote : Opening (code "'" ∷ [])
  by_call : (m : Mark) (u : List ℕ) → Skipped u → Opening (call_sign m u)

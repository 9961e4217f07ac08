-- Bytes as quoted text: the other definitions name bytes so, and not by their numbers. In a text `\\` is one `\`.
use Rattle.std.specs.Prelude.{ℕ, Bool, List, [], ◌∷◌, eqb}
use Prim.Native.String.{String}
use Prim.Native.String as Str
use Prim.Native.Char.{Char, code}

infix 50 ◌is◌
-- the bytes of a text
abbrev pub bytes : String → List ℕ
bytes Str.[] = []
bytes (Str.◌∷◌ c s) = code c ∷ bytes s

-- the byte b is the character c
abbrev pub ◌is◌ : ℕ → Char → Bool
b is c = eqb b (code c)

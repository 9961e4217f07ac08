-- The letters and digits of a word-pattern: a word that it covers has at least as many bytes.
use Rattle.std.specs.Prelude.{ℕ, ◌+◌, List, [], ◌∷◌, eqb}
use Rattle.macros.specs.Macro.{pick}
use Rattle.words.specs.Pattern.{dash}

-- 1 for a letter or digit, 0 for a dash
unfoldable pub letter : ℕ → ℕ
letter c = pick (eqb c dash) 0 1

-- the letters and digits of a pattern
unfoldable pub letters : List ℕ → ℕ
letters [] = 0
letters (c ∷ p) = letter c + letters p

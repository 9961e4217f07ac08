-- 02, N5: the form of a word-pattern, as a test that computes; PatternLaw.antt states it as a grammar.
use Rattle.std.specs.Prelude.{ℕ, Bool, true, false, not, ◌&&◌, ◌||◌, List, [], ◌∷◌, eqb}
use Rattle.words.specs.Word.{in_word}

-- the byte `-`
abbrev pub dash : ℕ
dash = 45

-- "letters, digits and dashes": the byte is one of these
abbrev pub allowed : ℕ → Bool
allowed c = eqb c dash || in_word c

-- every byte is one of these
unfoldable pub all_allowed : List ℕ → Bool
all_allowed [] = true
all_allowed (c ∷ p) = elim (allowed c) [ true ↦ all_allowed p | false ↦ false ]

-- the first byte is a dash
unfoldable pub begins_with_dash : List ℕ → Bool
begins_with_dash [] = false
begins_with_dash (c ∷ p) = eqb c dash

-- `--` stands somewhere
unfoldable pub two_dashes : List ℕ → Bool
two_dashes [] = false
two_dashes (c ∷ p) = elim (eqb c dash && begins_with_dash p) [ true ↦ true | false ↦ two_dashes p ]

-- there is no byte
unfoldable pub is_empty : List ℕ → Bool
is_empty [] = true
is_empty (b ∷ s) = false

-- what 41 does not refuse: "word-pattern empty, with another byte or with `--`"
unfoldable pub is_pattern : List ℕ → Bool
is_pattern p = not (is_empty p) && (all_allowed p && not (two_dashes p))

-- THE LAW OF WORD-PATTERNS: the test holds of what the grammar makes, and fails exactly for one of 41's three reasons.
use Rattle.std.specs.Prelude.{◌≡◌, ◌⊎◌, ◌↔◌, ℕ, true, false, List, [], ◌∷◌, ◌++◌}
use Rattle.words.specs.Word.{in_word, Run}
use Rattle.words.specs.Pattern.{dash, is_pattern}

-- THE GRAMMAR

-- a part of a word-pattern: a dash, or letters and digits in a row
pub data Part : Type 0 where
  one_dash : Part
  plain : (text : List ℕ) → Part

-- each part is a dash, or letters and digits, at least one
unfoldable pub PartsFormed : List Part → Type 0
PartsFormed [] = Unit {0}
PartsFormed (one_dash ∷ ps) = PartsFormed ps
PartsFormed (plain w ∷ ps) = (w ≡ [] → ⊥) × Run w × PartsFormed ps

-- the first part is no dash
unfoldable pub NoDashFirst : List Part → Type 0
NoDashFirst [] = Unit {0}
NoDashFirst (one_dash ∷ ps) = ⊥
NoDashFirst (plain w ∷ ps) = Unit {0}

-- "without two dashes in a row"
unfoldable pub DashesApart : List Part → Type 0
DashesApart [] = Unit {0}
DashesApart (one_dash ∷ ps) = NoDashFirst ps × DashesApart ps
DashesApart (plain w ∷ ps) = DashesApart ps

-- the bytes of the parts, one part after the other
unfoldable pub bytes_of : List Part → List ℕ
bytes_of [] = []
bytes_of (one_dash ∷ ps) = dash ∷ bytes_of ps
bytes_of (plain w ∷ ps) = w ++ bytes_of ps

-- "A word-pattern is letters, digits and dashes, without two dashes in a row": the bytes of such parts, at least one
pub record IsPattern (p : List ℕ) : Type 0 where
  pub parts : List Part
  pub whole : bytes_of parts ≡ p
  pub not_empty : parts ≡ [] → ⊥
  pub formed : PartsFormed parts
  pub apart : DashesApart parts

-- THE REASONS OF 41: "word-pattern empty, with another byte or with `--`"

-- a byte stands in it that is no letter or digit, and no dash
pub record AnotherByte (p : List ℕ) : Type 0 where
  pub before : List ℕ
  pub byte : ℕ
  pub after : List ℕ
  pub stands : p ≡ before ++ (byte ∷ after)
  pub no_letter : in_word byte ≡ false
  pub no_dash : byte ≡ dash → ⊥

-- `--` stands in it
pub record TwoDashes (p : List ℕ) : Type 0 where
  pub before : List ℕ
  pub after : List ℕ
  pub stand : p ≡ before ++ (dash ∷ dash ∷ after)

-- one of the three
abbrev pub NoPattern : List ℕ → Type 0
NoPattern p = (p ≡ []) ⊎ AnotherByte p ⊎ TwoDashes p

-- THE LAW

-- of one text, both ways
pub record PatternExact (p : List ℕ) : Type 0 where
  pub taken : (is_pattern p ≡ true) ↔ IsPattern p
  pub refused : (is_pattern p ≡ false) ↔ NoPattern p

-- of every text
abbrev pub PatternsExactly : Type 0
PatternsExactly = (p : List ℕ) → PatternExact p

-- 02, N5: what looking words up comes to.
use Rattle.std.specs.Prelude.{ℕ, true, false, List, [], ◌∷◌, leb, length}
use Rattle.macros.specs.Bounds.{most_line_bytes}
use Rattle.macros.specs.Refusals.{LineRefusal, line_number}
use Rattle.macros.specs.Refusals.LineRefusal.{line_too_long, bad_byte}
use Rattle.lines.specs.Feeding.{has_bad_byte}
use Rattle.words.specs.Refusal.{WordRefusal, word_number}
use Rattle.words.specs.Refusal.WordRefusal.{bad_pattern}
use Rattle.words.specs.Word.{Word, word, words_of}
use Rattle.words.specs.Pattern.{is_pattern}
use Rattle.words.specs.Cover.{covers}

-- the words that the pattern covers, in order
unfoldable pub covered_of : List ℕ → List Word → List Word
covered_of p [] = []
covered_of p (word q w ∷ ws) = elim (covers p w) [ true ↦ word q w ∷ covered_of p ws | false ↦ covered_of p ws ]

-- the place of the first word, 0 if there is none
unfoldable pub first_place : List Word → ℕ
first_place [] = 0
first_place (word q w ∷ ws) = q

-- "For a line the answer is the number of words covered and the place of the first", or a refusal of the line or of the pattern
pub data Looked : Type 0 where
  found : (number : ℕ) → (place : ℕ) → Looked
  refused_line : LineRefusal → Looked
  refused_pattern : WordRefusal → Looked

-- "or that there is none": number 0
unfoldable pub found_of : List Word → Looked
found_of ws = found (length ws) (first_place ws)

-- "41 .. comes after the line's own 21 and 22"
unfoldable pub look_up : (line pattern : List ℕ) → Looked
look_up t p =
    elim (leb (length t) most_line_bytes) [
      | false ↦ refused_line line_too_long
      | true ↦ elim (has_bad_byte t) [
        | true ↦ refused_line bad_byte
        | false ↦ elim (is_pattern p) [
          | false ↦ refused_pattern bad_pattern
          | true ↦ found_of (covered_of p (words_of t))
        ]
      ]
    ]

-- the number of the refusal, 0 if there is none
unfoldable pub looked_number : Looked → ℕ
looked_number (found n p) = 0
looked_number (refused_line r) = line_number r
looked_number (refused_pattern r) = word_number r

-- the number of words covered, 0 with a refusal
unfoldable pub looked_words : Looked → ℕ
looked_words (found n p) = n
looked_words (refused_line r) = 0
looked_words (refused_pattern r) = 0

-- the place of the first, 0 with a refusal
unfoldable pub looked_place : Looked → ℕ
looked_place (found n p) = p
looked_place (refused_line r) = 0
looked_place (refused_pattern r) = 0

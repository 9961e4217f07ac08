-- 02, N5: the words of a line.
use Rattle.std.specs.Prelude.{◌≡◌, ℕ, suc, Bool, true, false, not, ◌&&◌, List, [], ◌∷◌}
use Rattle.kinds.specs.Kind.{kind_of}

-- "letters and digits, as in `?2`"
abbrev pub in_word : ℕ → Bool
in_word = kind_of 2

-- the bytes are a run of letters and digits
unfoldable pub Run : List ℕ → Type 0
Run [] = Unit {0}
Run (b ∷ s) = (in_word b ≡ true) × Run s

-- the longest run at the head of the bytes
unfoldable pub leading : List ℕ → List ℕ
leading [] = []
leading (b ∷ s) = elim (in_word b) [ true ↦ b ∷ leading s | false ↦ [] ]

-- a word, with the place of its first byte in the line
pub data Word : Type 0 where
  word : (place : ℕ) → (text : List ℕ) → Word

-- a word begins at place p, where the line goes on with the bytes s, or none does
unfoldable pub begun : Bool → ℕ → List ℕ → List Word → List Word
begun true p s ws = word p (leading s) ∷ ws
begun false p s ws = ws

-- the words of the bytes from place p on; joined: the byte before them is a letter or digit
unfoldable pub words_from : List ℕ → (joined : Bool) → ℕ → List Word
words_from [] joined p = []
words_from (b ∷ s) joined p = begun (in_word b && not joined) p (b ∷ s) (words_from s (in_word b) (suc p))

-- "A word is a longest run of letters and digits": the words of a line, in order
unfoldable pub words_of : List ℕ → List Word
words_of t = words_from t false 0

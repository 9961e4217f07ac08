-- THE LAW OF WORDS: those of the definition are the longest runs of a line, all of them, in order.
use Rattle.std.specs.Prelude.{◌≡◌, ◌⊎◌, ℕ, ◌<◌, false, List, [], ◌∷◌, ◌++◌, reverse, length}
use Rattle.words.specs.Word.{in_word, Run, Word, word, words_of}

-- no letter or digit stands first
unfoldable pub Apart : List ℕ → Type 0
Apart [] = Unit {0}
Apart (b ∷ s) = in_word b ≡ false

-- the word w at place p of the line t: a run that is not empty, with no letter or digit on either side
pub record IsWord (t : List ℕ) (p : ℕ) (w : List ℕ) : Type 0 where
  -- the bytes before it, the nearest first, and those behind it
  pub before : List ℕ
  pub after : List ℕ
  pub line : t ≡ reverse before ++ (w ++ after)
  pub place : length before ≡ p
  pub not_empty : w ≡ [] → ⊥
  pub run : Run w
  pub apart_before : Apart before
  pub apart_after : Apart after

-- x is one of the words
unfoldable pub OneOf : Word → List Word → Type 0
OneOf x [] = ⊥
OneOf x (y ∷ ys) = (x ≡ y) ⊎ OneOf x ys

-- every place is above p
unfoldable pub Above : ℕ → List Word → Type 0
Above p [] = Unit {0}
Above p (word q w ∷ ws) = (p < q) × Above p ws

-- each word stands before all later ones
unfoldable pub Rising : List Word → Type 0
Rising [] = Unit {0}
Rising (word q w ∷ ws) = Above q ws × Rising ws

-- the words of the line t: each is one, each one is there, and they are in order
pub record WordsExact (t : List ℕ) : Type 0 where
  pub sound : (p : ℕ) (w : List ℕ) → OneOf (word p w) (words_of t) → IsWord t p w
  pub complete : (p : ℕ) (w : List ℕ) → IsWord t p w → OneOf (word p w) (words_of t)
  pub rising : Rising (words_of t)

-- of every line
abbrev pub WordsExactly : Type 0
WordsExactly = (t : List ℕ) → WordsExact t

-- The walk over a line's words.
use Rattle.std.specs.Prelude.{ℕ, ◌+◌, ◌≤◌, ◌≡◌, Bool, false, not, ◌&&◌, List, ltb, length, drop}
use Rattle.macros.specs.Macro.{pick}
use Rattle.words.specs.Word.{Word, words_from, words_of}
use Rattle.words.specs.Pattern.{is_empty}
use Rattle.words.specs.Cover.{covers}
use Rattle.words.specs.Look.{covered_of, first_place}

-- a run is a word that the pattern covers: it is not empty, and covered
unfoldable pub is_hit : (pattern run : List ℕ) → Bool
is_hit p w = not (is_empty w) && covers p w

-- the place of the first word covered, behind a run at place i; before it n were covered, from `first` on, and h is 1 if it is one
unfoldable pub first_of : (n h i first : ℕ) → ℕ
first_of n h i first = pick (ltb h 1) first (pick (ltb n 1) i first)

-- the words covered from place i on, before which no letter or digit stands
abbrev pub rest : (pattern line : List ℕ) → ℕ → List Word
rest p t i = covered_of p (words_from (drop i t) false i)

-- n words are covered before place i, the first of these at `first`
pub record So (p t : List ℕ) (n first i : ℕ) : Type 0 where
  pub count : length (covered_of p (words_of t)) ≡ n + length (rest p t i)
  pub place : first_place (covered_of p (words_of t)) ≡ pick (ltb n 1) (first_place (rest p t i)) first
  pub none : n ≡ 0 → first ≡ 0
  pub few : n ≤ i
  pub low : first ≤ i
  pub reach : i ≤ length t + 1

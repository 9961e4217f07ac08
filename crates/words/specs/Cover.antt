-- 02, N5: when a word-pattern covers a word.
use Rattle.std.specs.Prelude.{◌≡◌, ℕ, suc, Bool, true, false, ◌||◌, List, [], ◌∷◌, ◌++◌, eqb, length}
use Rattle.words.specs.Word.{Run}
use Rattle.words.specs.Pattern.{dash, is_empty}

-- A CHOICE OF RUNS, as a relation

-- the number of dashes of a pattern
unfoldable pub dashes : List ℕ → ℕ
dashes [] = 0
dashes (c ∷ p) = elim (eqb c dash) [ true ↦ suc (dashes p) | false ↦ dashes p ]

-- "A dash stands for any run of letters or digits, also none": each is one
unfoldable pub Runs : List (List ℕ) → Type 0
Runs [] = Unit {0}
Runs (r ∷ rs) = Run r × Runs rs

-- the run for the next dash
unfoldable pub first_run : List (List ℕ) → List ℕ
first_run [] = []
first_run (r ∷ rs) = r

-- the runs for the dashes behind it
unfoldable pub later_runs : List (List ℕ) → List (List ℕ)
later_runs [] = []
later_runs (r ∷ rs) = rs

-- the pattern with the runs put for its dashes, in order
unfoldable pub filled : List ℕ → List (List ℕ) → List ℕ
filled [] rs = []
filled (c ∷ p) rs = elim (eqb c dash) [ true ↦ first_run rs ++ filled p (later_runs rs) | false ↦ c ∷ filled p rs ]

-- "the pattern must cover the word": a run for each dash, and with these the pattern is the word
pub record Covers (p w : List ℕ) : Type 0 where
  pub runs : List (List ℕ)
  pub one_each : length runs ≡ dashes p
  pub are_runs : Runs runs
  pub whole : filled p runs ≡ w

-- WHETHER ONE COVERS, as a test that computes; CoverLaw.antt states that it is the relation

-- f holds behind some number of bytes, also none
unfoldable pub somewhere : (List ℕ → Bool) → List ℕ → Bool
somewhere f [] = f []
somewhere f (b ∷ w) = f (b ∷ w) || somewhere f w

-- the first byte is c, and then f holds; "Case counts"
unfoldable pub byte_then : ℕ → (List ℕ → Bool) → List ℕ → Bool
byte_then c f [] = false
byte_then c f (b ∷ w) = elim (eqb c b) [ true ↦ f w | false ↦ false ]

-- the pattern, byte by byte, covers the word
unfoldable pub covers : List ℕ → List ℕ → Bool
covers [] w = is_empty w
covers (c ∷ p) w = elim (eqb c dash) [ true ↦ somewhere (covers p) w | false ↦ byte_then c (covers p) w ]

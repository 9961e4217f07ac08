-- THE LAW OF COVERING: the test is the relation, for every pattern and every word.
use Rattle.std.specs.Prelude.{◌≡◌, ℕ, true, List}
use Rattle.words.specs.Word.{Run}
use Rattle.words.specs.Cover.{Covers, covers}

-- "A word is left out exactly if no choice of runs for the dashes covers it."
pub record CoverExact (p w : List ℕ) : Type 0 where
  pub sound : covers p w ≡ true → Covers p w
  pub complete : Covers p w → covers p w ≡ true

-- of every pattern, in form or not, and every run of letters and digits
abbrev pub CoversExactly : Type 0
CoversExactly = (p w : List ℕ) → Run w → CoverExact p w

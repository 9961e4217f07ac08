-- What putting bytes into the file does.
use Rattle.std.specs.Prelude.{ℕ, ◌+◌, ◌≤◌, ◌<◌, ◌≡◌, List, [], ◌∷◌, ◌++◌, length, take}
use Rattle.macros.specs.Bounds.{most_macro_bytes}
use Rattle.write_put.specs.declared.Short.{Short}
use Rattle.write_put.specs.declared.Short.TheVariants.{Nothing, One, Two, Three, Four}

unfoldable pub short_text : Short → List ℕ
short_text Nothing = []
short_text (One a) = a ∷ []
short_text (Two a b) = a ∷ b ∷ []
short_text (Three a b c) = a ∷ b ∷ c ∷ []
short_text (Four a b c d) = a ∷ b ∷ c ∷ d ∷ []

-- where size bytes behind the first n end: past the room's end if they do not fit, or if n is
pub record Ends (room n size r : ℕ) : Type 0 where
  pub count : r ≤ room → r ≡ n + size
  pub full : room < r → room < n + size

-- the bytes stand in the new file behind the first n of the old one, r in all; or they pass the file's end, and so does r
pub record Puts (n : ℕ) (bytes old new : List ℕ) (r : ℕ) : Type 0 where
  pub ends : Ends (length old) n (length bytes) r
  pub text : r ≤ length old → take r new ≡ take n old ++ bytes
  pub same : length new ≡ length old

-- where the rest is put behind the first n of the file now, the whole has been put behind the first m of the old file
abbrev pub Rest : ℕ → List ℕ → List ℕ → ℕ → List ℕ → List ℕ → Type 0
Rest m whole old n rest now = (new : List ℕ) (r : ℕ) → Puts n rest now new r → Puts m whole old new r

-- COUNTING, without a file

-- r bytes of a macro, the bytes behind its first n among them; or they are more than a macro may have, and so is r
pub record Counts (n : ℕ) (bytes : List ℕ) (r : ℕ) : Type 0 where
  pub ends : Ends most_macro_bytes n (length bytes) r

-- where the rest is counted behind n, the whole has been counted behind m
abbrev pub CountsOn : ℕ → List ℕ → ℕ → List ℕ → Type 0
CountsOn m whole n rest = (r : ℕ) → Counts n rest r → Counts m whole r

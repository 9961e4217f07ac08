-- The text of a tag (01, part 3), from the items of the pattern and the end at each item's place.
use Rattle.std.specs.Prelude.{ℕ, zero, suc, ◌+◌, ◌≤◌, ◌≡◌, Bool, true, false, List, [], ◌∷◌, eqb, length, get_or, drop}
use Rattle.std.proofs.Math.Seq.{slice}
use Rattle.macros.specs.Bounds.{most_line_bytes}
use Rattle.macros.specs.Formed.{Bytes}
use Rattle.form_table.specs.Form.{body_bytes}

-- at a left brace, at a right one, or at another item; n: the tags opened inside so far, q: the end here
unfoldable pub close_step : Bool → Bool → ℕ → ℕ → (ℕ → ℕ) → ℕ
close_step true r n q on = on (suc n)
close_step false true zero q on = q
close_step false true (suc n) q on = on n
close_step false false n q on = on n

-- the end of what precedes the right brace that closes a tag
unfoldable pub close_in : ℕ → List ℕ → List ℕ → ℕ
close_in n [] ends = 0
close_in n (c ∷ []) ends = 0
close_in n (c ∷ b ∷ l) ends = close_step (eqb c 1) (eqb c 2) n (get_or ends 0 0) (λ k. close_in k l (drop 2 ends))

-- at a left brace, or at another item; n: the left braces before the tag's own, s: the text of a tag that opens here
unfoldable pub tag_step : Bool → ℕ → List ℕ → (ℕ → List ℕ) → List ℕ
tag_step true zero s on = s
tag_step true (suc n) s on = on n
tag_step false n s on = on n

-- the text of the tag that has n left braces before its own
unfoldable pub tag_in : List ℕ → ℕ → List ℕ → List ℕ → List ℕ
tag_in t n [] ends = []
tag_in t n (c ∷ []) ends = []
tag_in t n (c ∷ b ∷ l) ends = tag_step (eqb c 1) n (slice (get_or ends 0 0) (close_in 0 l (drop 2 ends)) t) (λ k. tag_in t k l (drop 2 ends))

-- the items of a pattern, an end for each of their places, and room for one more item's
pub record Ended (pat ends : List ℕ) : Type 0 where
  pub few : length pat + 2 ≤ body_bytes
  pub count : length ends ≡ body_bytes

-- where the text stands that f takes from any line, not beyond the ends
pub record Spans (f : List ℕ → List ℕ) (ends : List ℕ) (from to : ℕ) : Type 0 where
  pub text : (t : List ℕ) → f t ≡ slice from to t
  pub ordered : from ≤ to
  pub inside : (z : ℕ) → ((i : ℕ) → get_or ends i 0 ≤ z) → to ≤ z

-- what the texts of tags are taken from
pub record Divided (pat ends line : List ℕ) : Type 0 where
  pub ended : Ended pat ends
  pub inside : (i : ℕ) → get_or ends i 0 ≤ length line
  pub bytes : Bytes line
  pub short : length line ≤ most_line_bytes

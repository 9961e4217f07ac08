-- 02, N7: the text that `#(i:n)` inserts.
use Rattle.std.specs.Prelude.{ℕ, ◌+◌, ◌*◌, ◌/◌, ◌%◌, ◌<◌, ◌≡◌, ◌↔◌, List, ◌∷◌, ◌++◌}
use Prim.Native.Char.{code}
use Rattle.macros.specs.Write.{digits}

-- "the counter's value divided by n, rounded down, a space, and what is left over"
unfoldable pub divided_text : (value n : ℕ) → List ℕ
divided_text v n = digits (v / n) ++ (code " " ∷ digits (v % n))

-- the text s in 02's own words: the digits of a quotient and of a remainder, with a space between them
pub record Divided (v n : ℕ) (s : List ℕ) : Type 0 where
  pub quotient : ℕ
  pub remainder : ℕ
  pub text : s ≡ digits quotient ++ (code " " ∷ digits remainder)
  -- "Quotient times n plus remainder is the value,"
  pub value : quotient * n + remainder ≡ v
  -- "and the remainder is below n"; n is 1 or more
  pub below : 0 < n → remainder < n
  -- of n 0, which no well-formed macro has: so that there is one text
  pub by_none : n ≡ 0 → quotient ≡ 0

-- THE LAW: that text and no other
abbrev pub DividedExact : Type 0
DividedExact = (v n : ℕ) (s : List ℕ) → Divided v n s ↔ (s ≡ divided_text v n)

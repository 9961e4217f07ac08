-- The marks as a set of pairs: of a closure, by the first byte of its item, and a place of the line.
-- What a pair in the set says of the pattern, that no division goes through that closure and place, is `Sound` (`pass_one: Marks`).
use Rattle.std.specs.Prelude.{ℕ, ◌%◌, ◌≤◌, ◌<◌, ◌≡◌, ◌⊎◌, List, length}
use Rattle.pass_marks.specs.Marks.{byte_of, mark, ByteThere, marked, cleared}

-- an item has two bytes, and a line's places go up to 1,054
pub record IsPair (at q : ℕ) : Type 0 where
  pub item : at % 2 ≡ 0
  pub place : q ≤ 1054

-- the pair is in the set
abbrev pub InSet : List ℕ → ℕ → ℕ → Type 0
InSet marks at q = mark marks at q ≡ 1

-- the set gains one pair and no other
pub record Gains (marks marks' : List ℕ) (at q : ℕ) : Type 0 where
  pub itself : InSet marks' at q
  pub kept : (i j : ℕ) → InSet marks i j → InSet marks' i j
  pub only : (i j : ℕ) → IsPair i j → InSet marks' i j → InSet marks i j ⊎ ((i ≡ at) × (j ≡ q))

-- the law of `set_mark`
abbrev pub MarkGains : Type 0
MarkGains = (marks : List ℕ) (at q : ℕ) → IsPair at q → ByteThere marks at q → Gains marks (marked marks at q) at q

-- the pairs of the items before the n-th byte are gone, and only they
pub record Loses (marks marks' : List ℕ) (n : ℕ) : Type 0 where
  pub gone : (i j : ℕ) → byte_of i j < n → InSet marks' i j → ⊥
  pub kept : (i j : ℕ) → n ≤ byte_of i j → mark marks' i j ≡ mark marks i j

-- the law of `clear`
abbrev pub ClearLoses : Type 0
ClearLoses = (marks : List ℕ) (n : ℕ) → n ≤ length marks → Loses marks (cleared marks n) n

-- The digits of a value, in memory.
use Rattle.std.specs.Prelude.{ℕ, ◌+◌, ◌≤◌, ◌≡◌, List, ◌++◌, length, take}
use Rattle.macros.specs.Write.{digits}

-- behind the first at bytes of old the digits stand, up to n
pub record Figures (v at : ℕ) (old new : List ℕ) (n : ℕ) : Type 0 where
  pub count : n ≡ at + length (digits v)
  pub few : n ≤ at + 9
  pub text : take n new ≡ take at old ++ digits v

-- the first n bytes are the digits
pub record Digits (v : ℕ) (new : List ℕ) (n : ℕ) : Type 0 where
  pub count : n ≡ length (digits v)
  pub text : take n new ≡ digits v

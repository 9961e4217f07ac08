-- The marks of a word: mark i is 1 where a pattern covers the word from its byte i on, else 0.
use Rattle.std.specs.Prelude.{ℕ, ◌≤◌, ◌≡◌, Bool, true, false, List, ◌∷◌, eqb, length, get_or, drop}
use Rattle.words.specs.Pattern.{dash}
use Rattle.words.specs.Cover.{covers}

-- a mark: 1 or 0
unfoldable pub mark : Bool → ℕ
mark true = 1
mark false = 0

-- the bytes t hold the marks of the pattern p, from the word's start to its end, both included
pub record Marked (t p w : List ℕ) : Type 0 where
  pub each : (i : ℕ) → i ≤ length w → get_or t i 0 ≡ mark (covers p (drop i w))

-- marks of a pattern become those of the pattern with a dash before it
pub record StepsDash (t t' w : List ℕ) : Type 0 where
  pub step : (p : List ℕ) → Marked t p w → Marked t' (dash ∷ p) w

-- marks of a pattern become those of the pattern with another byte c than a dash before it
pub record StepsByte (t t' w : List ℕ) (c : ℕ) : Type 0 where
  pub step : eqb c dash ≡ false → (p : List ℕ) → Marked t p w → Marked t' (c ∷ p) w

-- marks of a pattern become those of the pattern with any byte c before it
pub record Steps (t t' w : List ℕ) (c : ℕ) : Type 0 where
  pub step : (p : List ℕ) → Marked t p w → Marked t' (c ∷ p) w

-- What the tests of a line before its passes promise (01, part 6): 4, then 21, then 22.
use Rattle.std.specs.Prelude.{ℕ, ◌≡◌, Bool, true, false, List, ltb, length, Result, Ok, Err}
use Rattle.macros.specs.Bounds.{most_line_bytes, most_budget}
use Rattle.macros.specs.Macro.{pick}
use Rattle.macros.specs.Formed.{Bytes}
use Rattle.lines.specs.Feeding.{has_bad_byte}
use Rattle.line_test.specs.declared.Why.{Why}
use Rattle.line_test.specs.declared.Why.TheVariants.{BudgetTooLarge, LineTooLong, BadByte}

-- whether a line holds byte 0 or line feed (22)
pub record Tested (t : List ℕ) (r : Bool) : Type 0 where
  pub says : r ≡ has_bad_byte t
  pub bytes : r ≡ false → Bytes t

-- the order of the three: a budget over its bound, a line over its bound, a bad byte
unfoldable pub first_due : (large long bad : Bool) → Result (Unit {0}) Why
first_due large long bad = pick large (Err BudgetTooLarge) (pick long (Err LineTooLong) (pick bad (Err BadByte) (Ok tt)))

-- more bytes than a line may have
abbrev pub is_long : List ℕ → Bool
is_long t = ltb most_line_bytes (length t)

-- whether a line counts as bad: one that is too long does, whatever its bytes
unfoldable pub is_bad : List ℕ → Bool
is_bad t = pick (is_long t) true (has_bad_byte t)

-- what refuses a line with this budget, and the bytes of one that nothing does
pub record Firsts (t : List ℕ) (budget : ℕ) (r : Result (Unit {0}) Why) : Type 0 where
  pub says : r ≡ first_due (ltb most_budget budget) (is_long t) (is_bad t)
  pub bytes : r ≡ Ok tt → Bytes t

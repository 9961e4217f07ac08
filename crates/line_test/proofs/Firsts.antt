-- What refuses a line before its passes, by its tests.
-- Assumes nothing.
use Prim.Native.Nat.{ℕ, ◌≤◌, ◌<◌}
use mathlib.Core.Path.{refl}
use mathlib.Core.Bool.{true, false}
use mathlib.Core.List.{List}
use borrow.Author.Tests.{le-ltb, lt-ltb}
use lib.ListN.{length}
use Rattle.std.specs.Prelude.{Ok, Err}
use Rattle.macros.specs.Bounds.{most_line_bytes, most_budget}
use Rattle.macros.specs.Macro.{pick}
use Rattle.line_test.specs.Test.{Tested, first_due, is_bad, Firsts}
use Rattle.line_test.specs.declared.Why.TheVariants.{BudgetTooLarge, LineTooLong, BadByte}

pub large : (t : List ℕ) (budget : ℕ) → most_budget < budget → Firsts t budget (Err BudgetTooLarge)
unfolding first_due pick
large t budget l = record { says = rw (lt-ltb most_budget budget l) refl; bytes = λ e. cc }

module _ (t : List ℕ) (budget : ℕ) (small : budget ≤ most_budget) where
  pub long : most_line_bytes < length t → Firsts t budget (Err LineTooLong)
  unfolding first_due pick
  long l = record { says = rw (le-ltb most_budget budget small, lt-ltb most_line_bytes (length t) l) refl; bytes = λ e. cc }

  module _ (short : length t ≤ most_line_bytes) where
    pub bad : Tested t true → Firsts t budget (Err BadByte)
    unfolding first_due is_bad pick
    bad x = record { says = rw (le-ltb most_budget budget small, le-ltb most_line_bytes (length t) short, ← x.says) refl; bytes = λ e. cc }

    pub none : Tested t false → Firsts t budget (Ok tt)
    unfolding first_due is_bad pick
    none x = record { says = rw (le-ltb most_budget budget small, le-ltb most_line_bytes (length t) short, ← x.says) refl; bytes = λ e. x.bytes refl }

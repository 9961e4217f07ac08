-- A byte for each macro: whether it is closed to the line (01, part 6).
use Rattle.std.specs.Prelude.{ℕ, suc, ◌≤◌, ◌<◌, ◌≡◌, List, eqb, get_or, set, Option, Some, None}
use Rattle.macros.specs.Macro.{pick}

-- "A `<` macro that occurred is closed to this line": 1 is the code of `<`
unfoldable pub closed_flags : List ℕ → ℕ → ℕ → List ℕ
closed_flags flags symbol k = pick (eqb symbol 1) (set flags k 1) flags

-- one more than a macro's number, or 0 without one
abbrev pub above : Option ℕ → ℕ
above None = 0
above (Some k) = suc k

-- the newest open macro below k has the number r - 1, or there is none and r is 0
pub record OpenBelow (flags : List ℕ) (k r : ℕ) : Type 0 where
  pub below : r ≤ k
  pub closed : (i : ℕ) → r ≤ i → i < k → get_or flags i 0 ≡ 1
  pub opened : (i : ℕ) → suc i ≡ r → get_or flags i 0 ≡ 1 → ⊥

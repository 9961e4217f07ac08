-- A byte for each macro: whether it has passed on the line (02, N2).
use Rattle.std.specs.Prelude.{ℕ, zero, suc, ◌<◌, ◌≡◌, Bool, true, false, List, get_or, set}
use Rattle.macros.specs.Bounds.{most_macros}
use Rattle.lines.specs.Line.{is_in}

-- 0 is the byte of a macro that has not passed
abbrev pub is_set : ℕ → Bool
is_set zero = false
is_set (suc n) = true

-- the bytes say which macros have passed on the line
abbrev pub Begun : List ℕ → List ℕ → Type 0
Begun flags begun = (i : ℕ) → i < most_macros → is_in i begun ≡ is_set (get_or flags i 0)

-- a pass of the macro k, which is open, begins: 2
unfoldable pub begun_flags : List ℕ → ℕ → List ℕ
begun_flags flags k = set flags k 2

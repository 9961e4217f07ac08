-- The counters of the fresh state, as bytes.
use Rattle.std.specs.Prelude.{ℕ, zero, suc, List, [], ◌++◌}
use Rattle.form_bytes.specs.Fours.{four}

-- "counters and increments 1": the number 1, n times, four bytes each, low byte first
unfoldable pub ones : ℕ → List ℕ
ones zero = []
ones (suc n) = four 1 ++ ones n

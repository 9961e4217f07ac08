-- The marks of failed pairs of a closure and a place, of which 01 knows nothing: they spare the matcher work.
-- A pair has failed if the rest of the pattern from this closure on, with any number of its copies still to come,
-- has no division at that place (`Sound`, `pass_one: Marks`).
-- The closure's item begins at the byte `at` of the items, two bytes to an item; the place of the line is q.
-- A row has 132 bytes, 1,056 bits: for even `at` and q below 1,056 different pairs have different bits.
use Rattle.std.specs.Prelude.{ℕ, ◌+◌, ◌*◌, ◌/◌, ◌%◌, ◌^◌, ◌<◌, Bool, true, false, List, ◌++◌, eqb, length, get_or, set, drop, replicate}

-- the byte of a mark: an item has two bytes, and a row of 132
abbrev pub byte_of : ℕ → ℕ → ℕ
byte_of at q = at * 66 + q / 8

-- the mark, a bit of it: 1 where the pair was found to have failed
unfoldable pub mark : List ℕ → ℕ → ℕ → ℕ
mark marks at q = (get_or marks (byte_of at q) 0 / 2 ^ (q % 8)) % 2

-- the memory has the byte
abbrev pub ByteThere : List ℕ → ℕ → ℕ → Type 0
ByteThere marks at q = byte_of at q < length marks

-- a byte that has the bit stays, another gains it; all other bytes stay
abbrev pub marked_if : Bool → List ℕ → ℕ → ℕ → List ℕ
marked_if true marks at q = marks
marked_if false marks at q = set marks (byte_of at q) (get_or marks (byte_of at q) 0 + 2 ^ (q % 8))

-- the bytes with the mark
unfoldable pub marked : List ℕ → ℕ → ℕ → List ℕ
marked marks at q = marked_if (eqb (mark marks at q) 1) marks at q

-- the first n bytes have no mark; the others stay
abbrev pub cleared : List ℕ → ℕ → List ℕ
cleared marks n = replicate n 0 ++ drop n marks

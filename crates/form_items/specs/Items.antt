-- What is written into the lent bytes.
use Rattle.std.specs.Prelude.{ℕ, ◌+◌, ◌≡◌, List, [], ◌∷◌, ◌++◌, length, drop, take}
use Rattle.macros.specs.Macro.{Member, Piece}
use Rattle.form_table.specs.Form.{member_items, piece_items}

-- out is old with l written at n
pub record Wrote (old out : List ℕ) (n : ℕ) (l : List ℕ) : Type 0 where
  pub written : take (n + length l) out ≡ take n old ++ l
  pub kept : drop (n + length l) out ≡ drop (n + length l) old

-- the items of pieces, in the order read; the pieces stand in the list with the last read first
unfoldable pub items_of : List Piece → List ℕ
items_of [] = []
items_of (p ∷ ps) = items_of ps ++ piece_items p

-- the items of a class's members, in the order read, without the end; the members stand in the list with the last read first
unfoldable pub member_bytes : List Member → List ℕ
member_bytes [] = []
member_bytes (m ∷ ms) = member_bytes ms ++ member_items m

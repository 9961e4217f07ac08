-- What is promised of what writing out refuses (01, part 7: "The first byte that makes a macro longer than 512 gives 18,
-- the 32,769th of the file 10, whichever comes first (18 if the same); the place is that byte's").
-- WritesWhole rules out the edits place_513 (18 stands one byte late) and ten_first (10 on a tie),
-- and is false with last_513 (a later macro's 18).
use Rattle.std.specs.Prelude.{ℕ, ◌+◌, ◌<◌, ◌≤◌, ◌≡◌, List, [], ◌∷◌, ◌++◌, length}
use Rattle.macros.specs.Bounds.{most_file_bytes, most_macro_bytes}
use Rattle.macros.specs.Refusals.FileRefusal.{file_too_long, macro_too_long}
use Rattle.macros.specs.Macro.{Macro, Table}
use Rattle.macros.specs.Write.{Written, written, write_out}
use Rattle.macros.specs.Write.Written.{file, refused}

-- "Each macro on a line ended by line feed, oldest first", however long
unfoldable pub whole_text : Table → List ℕ
whole_text [] = []
whole_text (m ∷ ms) = (written m ++ (10 ∷ [])) ++ whole_text ms

-- a macro of the table has more than 512 bytes, and its 513th stands at place p of the whole text
pub record TooLongAt (ms : Table) (p : ℕ) : Type 0 where
  pub older : Table
  pub macro : Macro
  pub newer : Table
  pub stands : ms ≡ older ++ (macro ∷ newer)
  pub long : most_macro_bytes < length (written macro)
  pub place : p ≡ length (whole_text older) + most_macro_bytes

-- what writing out comes to
pub data WritesWell (ms : Table) : Written → Type 0 where
  -- the file, where no macro has a 513th byte and the file no 32,769th
  whole : length (whole_text ms) ≤ most_file_bytes → ((q : ℕ) → TooLongAt ms q → ⊥) → WritesWell ms (file (whole_text ms))
  -- 18 at the least of the 513th bytes, if that is at most 32,768
  long : {p : ℕ} → TooLongAt ms p → p ≤ most_file_bytes → ((q : ℕ) → TooLongAt ms q → p ≤ q) → WritesWell ms (refused macro_too_long p)
  -- 10 at place 32,768, the 32,769th byte, if every 513th byte of a macro stands behind it
  full : most_file_bytes < length (whole_text ms) → ((q : ℕ) → TooLongAt ms q → most_file_bytes < q)
      → WritesWell ms (refused file_too_long most_file_bytes)

-- Of these three exactly one is so of a table, and it is the answer.
abbrev pub WritesWhole : Type 0
WritesWhole = (ms : Table) → WritesWell ms (write_out ms)

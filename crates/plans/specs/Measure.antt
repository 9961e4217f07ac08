-- 02, N8: what a macro file will take. The table is named here because the numbers are those that it shows; the code makes none.
use Rattle.std.specs.Prelude.{ℕ, List, [], ◌∷◌, ltb, length}
use Rattle.macros.specs.Refusals.{FileRefusal}
use Rattle.macros.specs.Macro.{Macro, Table, pick, tags, elements}
use Rattle.macros.specs.Read.{Read, read_file}
use Rattle.macros.specs.ReadFile.Read.{refused_at, table}
use Rattle.macros.specs.Write.{Written, write_out}
use Rattle.macros.specs.Write.Written.{refused, file}

-- THE MOST OF A MACRO

-- the larger of two numbers
unfoldable pub larger : ℕ → ℕ → ℕ
larger a b = pick (ltb a b) b a

-- the most that f gives for any macro, "0 without macros"
unfoldable pub most : (Macro → ℕ) → Table → ℕ
most f [] = 0
most f (m ∷ ms) = larger (f m) (most f ms)

-- the pattern elements of a macro: a unit with its closure is one, so are `^` and `$`; braces, and calls before the pattern, are none
unfoldable pub macro_elements : Macro → ℕ
macro_elements m = elements m.pattern

-- the tags of a macro
unfoldable pub macro_tags : Macro → ℕ
macro_tags m = tags m.pattern

-- THE FILE AS IT WOULD BE WRITTEN OUT

-- its bytes; or, "if writing would be refused with 10 or 18", that refusal and its place
pub data Size : Type 0 where
  bytes : ℕ → Size
  unwritten : FileRefusal → (place : ℕ) → Size

-- the line feeds are bytes of the file
unfoldable pub size_of : Written → Size
size_of (file s) = bytes (length s)
size_of (refused r p) = unwritten r p

-- MEASURING

-- "the number of macros, the most pattern elements and the most tags that any macro has .., and the number of bytes of the file";
-- or the refusal of reading, with its place
pub data Measured : Type 0 where
  takes : (macros elements tags : ℕ) → Size → Measured
  unread : FileRefusal → (place : ℕ) → Measured

-- "All four equal what the table, once made, shows."; "A file that reading refuses gets the same number and place."
unfoldable pub measured : Read → Measured
measured (table ms) = takes (length ms) (most macro_elements ms) (most macro_tags ms) (size_of (write_out ms))
measured (refused_at r p) = unread r p

-- what a macro file will take
unfoldable pub measure : List ℕ → Measured
measure s = measured (read_file s)

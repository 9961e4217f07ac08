-- DEMAND 2, OF EVERY TABLE THAT CAN BE MADE: what is written out of it is read again as that table.
-- Ruled out are these edits of must-fail/: macro_97 (a `$MACRO` line fed to 95 macros leaves 97),
-- macro_unspelled (a `$MACRO` line leaves a macro that no file spells);
-- and of crates/macros: pattern_mark (a byte is written without its `\`) and written_513 (a macro of 513 bytes is written).
use Rattle.std.specs.Prelude.{ℕ, ◌≤◌, ◌≡◌, List, [], ◌∷◌, length}
use Rattle.macros.specs.Bounds.{most_file_bytes, most_macros, most_macro_bytes}
use Rattle.macros.specs.Macro.{Macro, Table}
use Rattle.macros.specs.Formed.{Bytes, Octets}
use Rattle.macros.specs.Read.{read_file}
use Rattle.macros.specs.ReadFile.Read.{table}
use Rattle.macros.specs.Write.{written, write_out}
use Rattle.macros.specs.Write.Written.{file}
use Rattle.macros.specs.Accepted.{Each, Accepted}
use Rattle.lines.specs.State.{State, InRange, AllOf}
use Rattle.lines.specs.Line.{Sent}
use Rattle.lines.specs.Feeding.{Answer, feeds}

-- the table that a list of answers leaves: the last one's; without an answer, the table that was there
unfoldable pub table_after : Table → List Answer → Table
table_after ms [] = ms
table_after ms (a ∷ answers) = table_after a.table answers

-- a table that some reading or list of lines can make
pub data Made (ms : Table) : Type 0 where
  -- some bytes are read as it
  by_reading : (s : List ℕ) → Octets s → read_file s ≡ table ms → Made ms
  -- lines of any bytes, with any budgets, leave it; the first was fed to an accepted table and a state in range
  by_lines : (first : Table) (st : State) (xs : List Sent) → Accepted first → InRange st → AllOf (λ (x : Sent). Octets x.line) xs
      → table_after first (feeds first st xs) ≡ ms → Made ms

-- the file s that the table ms is written to
pub record ReadsBack (ms : Table) (s : List ℕ) : Type 0 where
  -- read, it gives that table
  pub back : read_file s ≡ table ms
  -- it has at most 32,768 bytes
  pub fits : length s ≤ most_file_bytes
  -- each of them is 1 to 255
  pub bytes : Bytes s
  -- it has at most 96 macros
  pub count : length ms ≤ most_macros
  -- each macro in it has at most 512 bytes
  pub short : Each (λ (m : Macro). length (written m) ≤ most_macro_bytes) ms

-- THE LAW: of every table that can be made, if writing out does not refuse it, the file reads back
abbrev pub MadeReadsBack : Type 0
MadeReadsBack = (ms : Table) (s : List ℕ) → Made ms → write_out ms ≡ file s → ReadsBack ms s

-- and 1 refuses none of them
abbrev pub MadeAccepted : Type 0
MadeAccepted = (ms : Table) → Made ms → Accepted ms

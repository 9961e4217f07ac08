-- What is promised of writing out (01, part 7).
-- It rules out the edits pattern_mark, class_mark and text_mark (a byte is written without its `\`), written_513 (a macro of 513 bytes
-- is written), and of calls before a pattern calls_unwritten (they are not written) and calls_turned (they are read in another order).
use Rattle.std.specs.Prelude.{ℕ, ◌≤◌, ◌≡◌, List, length}
use Rattle.macros.specs.Bounds.{most_file_bytes, most_macro_bytes}
use Rattle.macros.specs.Macro.{Macro, Table}
use Rattle.macros.specs.Formed.{Bytes, Formed}
use Rattle.macros.specs.Read.{read_file}
use Rattle.macros.specs.ReadFile.Read.{table}
use Rattle.macros.specs.Write.{written, write_out}
use Rattle.macros.specs.Write.Written.{file}
use Rattle.macros.specs.Accepted.{Each, Accepted}

-- the file s that a table ms is written to
pub record WrittenWell (ms : Table) (s : List ℕ) : Type 0 where
  -- read again, it is the same table
  pub back : read_file s ≡ table ms
  -- it is no longer than a macro file may be
  pub fits : length s ≤ most_file_bytes
  -- it is bytes, and none of them is 0
  pub bytes : Bytes s
  -- each macro in it is no longer than a macro may be
  pub short : Each (λ m. length (written m) ≤ most_macro_bytes) ms

-- Whenever writing out an accepted table gives a file, that file is written well.
abbrev pub RoundTrip : Type 0
RoundTrip = (ms : Table) (s : List ℕ) → Accepted ms → write_out ms ≡ file s → WrittenWell ms s

-- Two well-formed macros that are written alike are the same macro, however long they are.
-- (The same macro is always written alike: `written` is a function.)
abbrev pub WrittenOnce : Type 0
WrittenOnce = (m n : Macro) → Formed m → Formed n → written m ≡ written n → m ≡ n

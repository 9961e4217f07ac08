-- DEMAND 2, THROUGH THE MEMORIES: what m7_write has written, m7_read reads as the same table bytes.
-- It rules out, among others, the edits whole_memory (m7_read is given the zeros behind the file too) and refused_reads_back (bytes that
-- are no table read back too).
use Rattle.std.specs.Prelude.{ℕ, ◌≡◌, List, length, take}
use Rattle.macros.specs.Formed.{Octets}
use Rattle.form_table.specs.Form.{table_bytes}
use Rattle.m7.specs.Contract.{Result, Writes, reads}
use Rattle.line_answer.specs.declared.Answer.{Answer}

-- m7_read's result, of what was written of the table bytes t
pub record Back (t : List ℕ) (w : Result) : Type 0 where
  -- it is no refusal
  pub taken : w.answer.number ≡ 0
  -- and the memory holds the bytes t
  pub same : w.memory ≡ t

-- Of any bytes t in the table's memory, if m7_write answers r with number 0 and leaves the bytes s in the file's memory,
-- m7_read is given the first r .length of these, and any table's memory of the right size.
abbrev pub Demand2 : Type 0
Demand2 =
    (t old s new : List ℕ) (r : Answer)
    → Octets t → Writes t old r s → r.number ≡ 0 → length new ≡ table_bytes → Back t (reads (take r.length s) new)

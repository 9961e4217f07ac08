-- THE CONTRACT OF m7_write LEAVES NOTHING FREE. (m7_read and m7_fresh have theirs computed, as `reads` and `freshens`.)
-- It rules out, among others, the edits never_written (the file's memory is always as it was) and entry_from_exit (what that memory holds
-- at exit tells what it held at entry).
use Rattle.std.specs.Prelude.{ℕ, List}
use Rattle.macros.specs.Formed.{Octets}
use Rattle.line_answer.specs.declared.Answer.{Answer}
use Rattle.m7.specs.Contract.{Result, Gives, Writes}

-- Whatever bytes are lent, there is one result, and the contract allows no other answer and no other bytes in the file's memory.
abbrev pub OneResult : Type 0
OneResult = (t old : List ℕ) → Octets t → (w : Result) × ((r : Answer) (b : List ℕ) → Writes t old r b → Gives w r b)

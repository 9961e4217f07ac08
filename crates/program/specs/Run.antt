-- THE WHOLE RUN (01, part 8), up to what is read and written: the macro file, then the lines, or the file's refusal.
-- It rules out, among others, a refused file that is said with line 1 (run_files would show it).
use Rattle.std.specs.Prelude.{ℕ, ◌≡◌, List, [], replicate, Ok, Err}
use Rattle.program.specs.Parts.{Parts, PartsRead, said_number}
use Rattle.program.specs.Said.{RefusalSaid}
use Rattle.program.specs.Lines.{FreshLines}

-- by what became of the file: all lines with its table, and nothing is left to say; "a refused file gives `! N 0` and nothing more"
unfoldable pub Follows : Parts → (table table' said : List ℕ) → Type 0
Follows (Ok u) table table' said = FreshLines table table' × (said ≡ [])
Follows (Err e) table table' said = RefusalSaid (said_number e) 0 said × (table' ≡ table)

-- the file is read into 98,304 zeros, and what follows has the table's memory as this left it
pub record Ran (table' said : List ℕ) : Type 0 where
  pub parts : Parts
  pub between : List ℕ
  pub read : PartsRead (replicate 98304 0) parts between
  pub follows : Follows parts between table' said

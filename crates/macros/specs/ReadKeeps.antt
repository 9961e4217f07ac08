-- What is promised of reading (01, part 2, and `$MACRO` of part 6).
-- It rules out the edits range_falls (a falling range is read), tag_past (a tag that the pattern has not is read)
-- and older_lost (the older macros are lost).
use Rattle.std.specs.Prelude.{ℕ, ◌≡◌, List, ◌++◌}
use Rattle.macros.specs.Macro.{Table}
use Rattle.macros.specs.Formed.{Octets}
use Rattle.macros.specs.Read.{read_onto}
use Rattle.macros.specs.ReadFile.Read.{table}
use Rattle.macros.specs.Accepted.{Accepted}

-- the table ms that reading a file onto a table `older` gives
pub record ReadWell (older ms : Table) : Type 0 where
  -- it is accepted: at most 96 macros, each of which some file spells
  pub accepted : Accepted ms
  -- it is the older macros, as they were, and new ones behind them
  pub behind : (new : Table) × (ms ≡ older ++ new)

-- Whenever bytes are read onto an accepted table without a fault, the new table is read well.
-- With `older` empty this is a macro file: what read_file gives is accepted.
abbrev pub ReadKeeps : Type 0
ReadKeeps = (older : Table) (s : List ℕ) (ms : Table) → Accepted older → Octets s → read_onto older s ≡ table ms → ReadWell older ms

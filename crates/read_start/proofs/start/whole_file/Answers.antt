use Rattle.read_start.specs.Start.WholeFile.{plain, long, zeroed}
use Rattle.read_start.proofs.Seeking.{zero_at, zero_none}
use Rattle.read_start.proofs.start.whole_file.Goals as goal

pub returns-then-file-gt-MOST_FILE_BYTES : goal.returns-then-file-gt-MOST_FILE_BYTES
returns-then-file-gt-MOST_FILE_BYTES c = rw c.at.ensures (long c.if-file-gt-MOST_FILE_BYTES.true)

pub returns-in-Some : goal.returns-in-Some
returns-in-Some c = rw c.at-in-Some.ensures (zeroed _ c.if-file-gt-MOST_FILE_BYTES.false (zero_at _ c.first_zero.ensures c.in-Some.is))

pub returns-in-None : goal.returns-in-None
returns-in-None c = plain c.if-file-gt-MOST_FILE_BYTES.false (zero_none _ c.first_zero.ensures c.in-None.is)

use mathlib.Core.Path.{sym}
use Rattle.check_table.specs.PatternCode.{spot_of, state_of, next_of}
use Rattle.check_table.proofs.PatternLaws.{ended_not, ended_by}
use Rattle.check_table.proofs.pattern.behind.Goals as goal

pub returns-then-k-gt2 : goal.returns-then-k-gt2
unfolding spot_of state_of next_of
returns-then-k-gt2 c = sym (ended_not _ _ _ _ _ _ _ c.if-k-gt2.true)

pub returns : goal.returns
unfolding spot_of state_of next_of
returns c = rw c.closed.ensures (sym (ended_by _ _ _ _ _ _ _ c.if-k-gt2.false))

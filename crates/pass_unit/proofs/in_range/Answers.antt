use borrow.Author.Tests.{le-leb, lt-leb}
use Rattle.macros.specs.Macro.{within}
use Rattle.pass_unit.proofs.in_range.Goals as goal

pub returns-then-a-b : goal.returns-then-a-b
unfolding within
returns-then-a-b c = simp (le-leb _ _ c.if-a-b.true)

pub returns-else-a-b : goal.returns-else-a-b
unfolding within
returns-else-a-b c = simp (lt-leb _ _ c.if-a-b.false)

use borrow.Author.Tests.{le-leb, lt-leb}
use Rattle.macros.specs.Macro.{within, digit}
use Rattle.read_bytes.proofs.is_digit.Goals as goal

pub returns-then-b-ge48 : goal.returns-then-b-ge48
unfolding digit within
returns-then-b-ge48 c = simp (le-leb _ _ c.if-b-ge48.true)

pub returns-else-b-ge48 : goal.returns-else-b-ge48
unfolding digit within
returns-else-b-ge48 c = simp (lt-leb _ _ c.if-b-ge48.false)

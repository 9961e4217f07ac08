use borrow.Author.Tests.{le-leb, lt-leb}
use Rattle.macros.specs.Macro.{within, ascii_lower}
use Rattle.read_bytes.proofs.is_lower.Goals as goal

pub returns-then-b-ge97 : goal.returns-then-b-ge97
unfolding ascii_lower within
returns-then-b-ge97 c = simp (le-leb _ _ c.if-b-ge97.true)

pub returns-else-b-ge97 : goal.returns-else-b-ge97
unfolding ascii_lower within
returns-else-b-ge97 c = simp (lt-leb _ _ c.if-b-ge97.false)

use borrow.Author.Tests.{lt-ltb, le-ltb}
use Rattle.macros.specs.Macro.{pick}
use Rattle.write_pattern.proofs.element_code.Goals as goal

pub returns-then-code-lt32 : goal.returns-then-code-lt32
unfolding pick
returns-then-code-lt32 c = simp (lt-ltb _ _ c.if-code-lt32.true)

pub returns-else-code-lt32 : goal.returns-else-code-lt32
unfolding pick
returns-else-code-lt32 c = simp (le-ltb _ _ c.if-code-lt32.false)

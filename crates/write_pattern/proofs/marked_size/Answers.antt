use mathlib.Core.Path.{refl}
use native.Mathlib.Omega.{arith}
use Rattle.macros.specs.Write.{byte}
use Rattle.write_pattern.proofs.marked_size.Goals as goal

pub returns-then-mark : goal.returns-then-mark
unfolding byte
returns-then-mark c = (rw c.if-mark.true refl, omega arith)

pub returns-else-mark : goal.returns-else-mark
unfolding byte
returns-else-mark c = (rw c.if-mark.false refl, omega arith)

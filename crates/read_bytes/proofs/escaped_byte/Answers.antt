use borrow.Author.Tests.{ne_eqb}
use Rattle.macros.specs.Macro.{pick}
use Rattle.macros.specs.Read.{escaped}
use Rattle.read_bytes.proofs.escaped_byte.Goals as goal

pub returns-then-b-eq110 : goal.returns-then-b-eq110
unfolding escaped pick
returns-then-b-eq110 c = simp c.if-b-eq110.true

pub returns-then-b-eq116 : goal.returns-then-b-eq116
unfolding escaped pick
returns-then-b-eq116 c = simp c.if-b-eq116.true

pub returns : goal.returns
unfolding escaped pick
returns c = simp (ne_eqb _ _ c.if-b-eq110.false, ne_eqb _ _ c.if-b-eq116.false)

use borrow.Author.Tests.{le-leb, lt-leb}
use Rattle.macros.specs.Macro.{pick}
use Rattle.write_file.specs.Slots.{fault_of}
use Rattle.write_file.proofs.slots.fault_of.Goals as goal

pub returns-then-start-le32256 : goal.returns-then-start-le32256
unfolding fault_of pick
returns-then-start-le32256 c = simp (le-leb _ _ c.if-start-le32256.true)

pub returns : goal.returns
unfolding fault_of pick
returns c = simp (lt-leb _ _ c.if-start-le32256.false)

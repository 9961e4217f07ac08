use mathlib.Core.Path.{ap}
use borrow.Author.Tests.{lt-ltb, le-ltb}
use Rattle.macros.specs.Macro.{pick}
use Rattle.write_file.specs.declared.WritingFault.{WritingFault}
use Rattle.write_file.specs.Slots.{answer_of, no_file}
use Rattle.write_file.proofs.slots.answer_of.Goals as goal

pub returns-then-limit-n : goal.returns-then-limit-n
unfolding answer_of pick
returns-then-limit-n c = simp (lt-ltb _ _ c.if-limit-n.true) (ap (λ (f : WritingFault). no_file f c.args.limit) c.fault_of.ensures)

pub returns-then-end-gt32768 : goal.returns-then-end-gt32768
unfolding answer_of pick
returns-then-end-gt32768 c = simp (le-ltb _ _ c.if-limit-n.false, lt-ltb _ _ c.if-end-gt32768.true)

pub returns : goal.returns
unfolding answer_of pick
returns c = simp (le-ltb _ _ c.if-limit-n.false, le-ltb _ _ c.if-end-gt32768.false)

use native.Mathlib.Omega.{arith}
use Rattle.write_file.proofs.Slotted.{ordered}
use Rattle.write_file.proofs.slots.pattern_end.Goals as goal

pub before_end-requires : goal.before_end-requires
before_end-requires c = c.requires

pub two_at-requires : goal.two_at-requires
two_at-requires c = omega (arith, c.requires.size)

pub overflow_add-result : goal.overflow_add-result
overflow_add-result c = omega (arith, ordered c.args.slot.now c.requires, c.before_end.ensures, c.two_at.ensures.0)

pub returns : goal.returns
returns c = omega (arith, ordered c.args.slot.now c.requires, c.before_end.ensures, c.two_at.ensures.0)

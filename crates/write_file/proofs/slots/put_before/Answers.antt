use mathlib.Core.Path.{refl, ap}
use native.Mathlib.Omega.{arith}
use Rattle.write_file.proofs.Slotted.{ordered, part_here}
use Rattle.write_put.proofs.Putting.{by_bytes}
use Rattle.write_actions.specs.Items.{actions_text}
use Rattle.write_file.specs.Slots.{before_text}
use Rattle.write_file.proofs.slots.put_before.Goals as goal

pub before_end-e-requires : goal.before_end-e-requires
before_end-e-requires c = c.requires.1

pub slice_bounds-put_actions-count : goal.slice_bounds-put_actions-count
slice_bounds-put_actions-count c = omega (arith, ordered c.args.slot.now c.requires.1, c.before_end-e.ensures)

pub slice_bounds-put_actions-start : goal.slice_bounds-put_actions-start
slice_bounds-put_actions-start c = omega (arith, ordered c.args.slot.now c.requires.1, c.before_end-e.ensures)

pub slice_bounds-put_actions-end : goal.slice_bounds-put_actions-end
slice_bounds-put_actions-end c = omega (arith, ordered c.args.slot.now c.requires.1, c.before_end-e.ensures)

pub put_actions-requires : goal.put_actions-requires
put_actions-requires c = (c.requires.0, rw (part_here c.args.slot.now refl c.before_end-e.ensures) c.requires.1.before)

pub shape_of-file : goal.shape_of-file
shape_of-file c = omega (arith, c.put_actions.auto.file)

pub returns : goal.returns
unfolding before_text
returns c = by_bytes (ap (actions_text 0) (part_here c.args.slot.now refl c.before_end-e.ensures)) c.put_actions.ensures

use native.Mathlib.Omega.{arith}
use Rattle.read_plan.proofs.Items.{slot_room, slot_here}
use Rattle.read_plan.proofs.elements_of.Goals as goal

pub two_at-a-requires : goal.two_at-a-requires
two_at-a-requires c = let r = slot_room c.requires in omega (arith, r.1)

pub overflow_add-a : goal.overflow_add-a
overflow_add-a c = omega (arith, c.two_at-a.ensures.1)

pub two_at-requires : goal.two_at-requires
two_at-requires c = let r = slot_room c.requires in omega (arith, r.1)

pub overflow_add-e : goal.overflow_add-e
overflow_add-e c = omega (arith, c.two_at-a.ensures.1, c.two_at.ensures.1)

pub slice_bounds-count_elements-end : goal.slice_bounds-count_elements-end
slice_bounds-count_elements-end c = let r = slot_room c.requires in omega (arith, r.0, r.1, c.two_at-a.ensures.0, c.two_at.ensures.0)

pub returns : goal.returns
returns c = slot_here c.requires c.two_at-a.ensures.0 c.two_at.ensures.0 c.count_elements.ensures

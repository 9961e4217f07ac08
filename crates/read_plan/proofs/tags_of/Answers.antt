use Rattle.std.proofs.Common.{arith}
use Rattle.read_plan.proofs.Items.{slot_room}
use Rattle.read_plan.proofs.tags_of.Goals as goal

pub bounds-slot-1 : goal.bounds-slot-1
bounds-slot-1 c = let r = slot_room c.requires in omega (arith, r.1)

use Prim.Native.Nat.{◌-◌}
use lib.ListN.{length}
use Rattle.pass_unit.proofs.ItemLaws.{Walked, Ahead}
use Rattle.pass_unit.proofs.members_end.Given as goal

abbrev pub invariant-loop-i : goal.invariant-loop-i
invariant-loop-i l = Walked l.items l.from l.i (Ahead l.from l.i)

abbrev pub decreases-loop-i : goal.decreases-loop-i
decreases-loop-i l = length l.items - l.i

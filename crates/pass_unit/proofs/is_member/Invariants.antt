use Prim.Native.Nat.{◌-◌}
use lib.ListN.{length}
use Rattle.pass_unit.proofs.ItemLaws.{Walked, Alike}
use Rattle.pass_unit.proofs.is_member.Given as goal

abbrev pub invariant-loop-i : goal.invariant-loop-i
invariant-loop-i l = Walked l.items l.from l.i (Alike l.b)

abbrev pub decreases-loop-i : goal.decreases-loop-i
decreases-loop-i l = length l.items - l.i

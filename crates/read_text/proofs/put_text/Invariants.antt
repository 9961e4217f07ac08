use Prim.Native.Nat.{◌-◌}
use lib.ListN.{length}
use Rattle.read_text.proofs.Texts.{Reading}
use Rattle.read_text.proofs.put_text.Given as goal

abbrev pub invariant-loop-b : goal.invariant-loop-b
invariant-loop-b l = Reading l.s l.a l.first l.initial.out l.out l.n l.at l.k

abbrev pub decreases-loop-b : goal.decreases-loop-b
decreases-loop-b l = length l.s - l.at

use Prim.Native.Nat.{◌≤◌, ◌-◌}
use lib.ListN.{length}
use Rattle.read_scan.specs.Scan.{Reached}
use Rattle.read_scan.proofs.Laws.{Spaces}
use Rattle.read_scan.proofs.scan.call_byte.Given as goal

abbrev pub invariant-loop-b : goal.invariant-loop-b
invariant-loop-b l = (l.first ≤ l.at) × Reached l.s l.a l.at × Spaces l.s l.a l.first l.at

abbrev pub decreases-loop-b : goal.decreases-loop-b
decreases-loop-b l = length l.s - l.at

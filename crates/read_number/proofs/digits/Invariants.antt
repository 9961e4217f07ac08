use Prim.Native.Nat.{◌≤◌, ◌-◌}
use lib.ListN.{length}
use Rattle.std.specs.Prelude.{IfSome}
use Rattle.read_scan.specs.Scan.{Reached}
use Rattle.read_number.proofs.Numbers.{Sofar}
use Rattle.read_number.proofs.digits.Given as goal

abbrev pub invariant-loop-found : goal.invariant-loop-found
invariant-loop-found l = (l.first ≤ l.at) × Reached l.s l.a l.at × IfSome l.value (λ n. n ≤ 1000000000) × Sofar l.s l.a l.first l.spaces l.at l.value

abbrev pub decreases-loop-found : goal.decreases-loop-found
decreases-loop-found l = length l.s - l.at

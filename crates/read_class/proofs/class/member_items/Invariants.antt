use mathlib.Core.Path.{◌≡◌}
use Prim.Native.Nat.{◌≤◌, ◌-◌}
use lib.ListN.{length}
use Rattle.read_scan.specs.Scan.{Reached}
use Rattle.read_class.specs.Class.{Membered}
use Rattle.read_class.proofs.class.member_items.Given as goal

abbrev pub invariant-loop-c : goal.invariant-loop-c
invariant-loop-c l = (l.first ≤ l.at) × Reached l.s l.a l.at × (length l.out ≡ length l.initial.out) × Membered l.s l.a l.first l.at l.initial.out l.out l.from l.n l.last

abbrev pub decreases-loop-c : goal.decreases-loop-c
decreases-loop-c l = length l.s - l.at

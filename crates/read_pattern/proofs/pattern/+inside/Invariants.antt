use mathlib.Core.Path.{◌≡◌}
use Prim.Native.Nat.{◌+◌, ◌-◌, ◌*◌, ◌≤◌}
use lib.ListN.{length}
use Rattle.read_scan.specs.Scan.{Reached}
use Rattle.read_pattern.specs.Pattern.{Grown}
use Rattle.read_pattern.proofs.pattern.+inside.Given as goal

abbrev pub decreases-inside : goal.decreases-inside
decreases-inside l = length l.s.now - l.first

abbrev pub invariant-loop-b : goal.invariant-loop-b
invariant-loop-b l = (l.initial.at ≤ l.at) × Reached l.s l.a l.at × (l.far.tags ≤ 99) × (l.far.used ≤ l.initial.far.used + 2 * (l.at - l.initial.at)) × (length l.out ≡ length l.initial.out) × Grown l.s l.a l.initial.at l.initial.far l.at l.far l.initial.out l.out

abbrev pub decreases-loop-b : goal.decreases-loop-b
decreases-loop-b l = length l.s - l.at

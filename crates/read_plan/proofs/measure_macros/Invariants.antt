use mathlib.Core.Path.{◌≡◌}
use Prim.Native.Nat.{◌≤◌, ◌-◌}
use lib.ListN.{length}
use Rattle.read_plan.proofs.Tallies.{Tally}
use Rattle.read_plan.proofs.measure_macros.Given as goal

abbrev pub invariant-loop-next : goal.invariant-loop-next
invariant-loop-next l = (l.at ≤ length l.file) × (length l.slot ≡ 1024) × (l.macros ≤ 96) × Tally l.file l.at l.macros l.elements l.tags l.written

abbrev pub decreases-loop-next : goal.decreases-loop-next
decreases-loop-next l = length l.file - l.at

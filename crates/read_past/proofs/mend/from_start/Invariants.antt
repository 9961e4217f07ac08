use mathlib.Core.Path.{◌≡◌}
use Prim.Native.Nat.{◌-◌}
use lib.ListN.{length}
use Rattle.read_past.specs.Past.{Standing}
use Rattle.read_past.proofs.mend.from_start.Given as goal

abbrev pub invariant-loop-next : goal.invariant-loop-next
invariant-loop-next l =
    (length l.table ≡ length l.initial.table) × (length l.faults ≡ length l.initial.faults)
    × Standing l.file l.so_far.at l.so_far.macros l.so_far.faults l.table l.faults

abbrev pub decreases-loop-next : goal.decreases-loop-next
decreases-loop-next l = length l.file - l.so_far.at

use mathlib.Core.Path.{◌≡◌}
use Prim.Native.Nat.{◌≤◌, ◌-◌}
use lib.ListN.{length}
use Rattle.read_command.specs.Commands.{Lists}
use Rattle.read_command.proofs.commands.commands_items.Given as goal

abbrev pub invariant-loop-b : goal.invariant-loop-b
invariant-loop-b l = (l.first ≤ l.at) × (length l.out ≡ length l.initial.out) × Lists l.s l.a l.first l.initial.out l.out l.start l.before l.tags l.at l.n

abbrev pub decreases-loop-b : goal.decreases-loop-b
decreases-loop-b l = length l.s - l.at

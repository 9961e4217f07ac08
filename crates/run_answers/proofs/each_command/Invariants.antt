use Prim.Native.Nat.{◌≤◌}
use mathlib.Core.Path.{◌≡◌}
use lib.ListN.{length}
use Rattle.run_answers.proofs.each_command.Given as goal

abbrev pub invariant-loop : goal.invariant-loop
invariant-loop g l = (l.reading.size ≤ 65536) × (l.reading.held ≤ length l.initial.command) × (length l.command ≡ length l.initial.command)

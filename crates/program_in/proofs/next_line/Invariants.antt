use Prim.Native.Nat.{◌≤◌}
use mathlib.Core.Path.{◌≡◌}
use lib.ListN.{length}
use Rattle.program_in.proofs.Lines.{Going}
use Rattle.program_in.proofs.next_line.Given as goal

abbrev pub invariant-loop : goal.invariant-loop
invariant-loop g l =
    (length l.block ≡ length l.initial.block) × (length l.line ≡ length l.initial.line) × (l.reading.size ≤ length l.block) × (l.reading.held ≤ length l.line) × Going l.initial.reading l.initial.block l.initial.line l.counter l.reading l.block l.line

use Prim.Native.Nat.{◌-◌, ◌≤◌}
use mathlib.Core.Path.{◌≡◌}
use lib.ListN.{length}
use Rattle.program.specs.Lines.{Standing}
use Rattle.program.specs.Held.{Sound}
use Rattle.program.proofs.Lines.{Lines}
use Rattle.program.proofs.each_line.Given as goal

abbrev pub invariant-loop-number : goal.invariant-loop-number
invariant-loop-number g l =
    (l.reading.size ≤ 65536)
    × (l.reading.held ≤ length l.initial.line)
    × (length l.line ≡ length l.initial.line)
    × (l.used ≤ 65536)
    × (length l.trace ≡ 65536)
    × ((a : Standing) → Lines a l.initial.number l.initial.table l.initial.state l.initial.block l.initial.line l.initial.out l.initial.reading l.initial.used → Lines a l.number l.table l.state l.block l.line l.out l.reading l.used)
    × Sound l.table l.state

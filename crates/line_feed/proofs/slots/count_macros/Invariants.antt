use Prim.Native.Nat.{◌≤◌}
use lib.ListN.{length}
use Rattle.macros.specs.Macro.{Table}
use Rattle.line_memory.specs.Memory.{IsTable}
use Rattle.line_feed.proofs.slots.count_macros.Given as goal

abbrev pub invariant-loop-k : goal.invariant-loop-k
invariant-loop-k l = (ms : Table) → IsTable l.table ms → l.k ≤ length ms

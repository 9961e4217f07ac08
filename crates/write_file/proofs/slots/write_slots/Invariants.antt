use Prim.Native.Nat.{◌≤◌}
use mathlib.Core.Path.{◌≡◌}
use lib.ListN.{length}
use Rattle.write_file.proofs.Listed.{Reaches}
use Rattle.write_file.proofs.slots.write_slots.Given as goal

abbrev pub invariant-loop-k : goal.invariant-loop-k
invariant-loop-k l = (l.k ≤ 96) × (l.n ≤ 32768) × (length l.file ≡ length l.initial.file) × Reaches l.table l.file l.n l.k

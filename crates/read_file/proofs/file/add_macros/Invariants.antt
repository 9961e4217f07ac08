use mathlib.Core.Path.{◌≡◌}
use mathlib.Core.Bool.{false}
use Prim.Native.Nat.{◌≤◌, ◌-◌}
use lib.ListN.{length, drop}
use Rattle.macros.specs.Read.{read_from}
use Rattle.macros.specs.ReadFile.Pending.{clear}
use Rattle.macros.specs.ReadFile.Reader.{between}
use Rattle.read_file.specs.File.{Adds}
use Rattle.read_file.proofs.file.add_macros.Given as goal

abbrev pub invariant-loop-next : goal.invariant-loop-next
invariant-loop-next l = (l.at ≤ length l.file) × (length l.table ≡ length l.initial.table) × Adds l.file l.count l.initial.table l.table l.n (λ ms. read_from l.at (between false clear ms) (drop l.at l.file))

abbrev pub decreases-loop-next : goal.decreases-loop-next
decreases-loop-next l = length l.file - l.at

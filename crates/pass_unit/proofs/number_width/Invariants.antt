use mathlib.Core.Path.{◌≡◌}
use Prim.Native.Nat.{◌+◌, ◌≤◌}
use lib.ListN.{length}
use Rattle.macros.specs.Write.{digits}
use Rattle.pass_unit.proofs.number_width.Given as goal

abbrev pub invariant-loop-m : goal.invariant-loop-m
invariant-loop-m l = (l.w + length (digits l.m) ≡ 1 + length (digits l.n)) × (l.w + l.m ≤ l.n + 1)

abbrev pub decreases-loop-m : goal.decreases-loop-m
decreases-loop-m l = l.m

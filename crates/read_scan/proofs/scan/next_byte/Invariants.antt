use mathlib.Core.Path.{◌≡◌}
use mathlib.Core.Bool.{true, false}
use Prim.Native.Nat.{◌≤◌, ◌-◌}
use lib.ListN.{length}
use Rattle.macros.specs.Read.{Part, Prior, skips}
use Rattle.read_scan.specs.Scan.{run, Reached}
use Rattle.read_scan.specs.Bytes.{seen}
use Rattle.read_scan.proofs.Bytes.{seen_in}
use Rattle.read_scan.proofs.scan.next_byte.Given as goal

abbrev pub invariant-loop-at : goal.invariant-loop-at
invariant-loop-at l = (l.first ≤ l.at) × Reached l.s l.a l.at × ((st : Part) (pr : Prior) → skips st ≡ true → run l.s l.a pr false l.first st ≡ run l.s l.a pr l.skip l.at st) × (seen l.s l.a l.first ≡ seen_in l.skip l.s l.a l.at)

abbrev pub decreases-loop-at : goal.decreases-loop-at
decreases-loop-at l = length l.s - l.at

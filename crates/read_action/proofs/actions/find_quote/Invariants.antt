use Prim.Native.Nat.{◌≤◌, ◌-◌}
use lib.ListN.{length}
use Rattle.macros.specs.ReadSoFar.Part.{await_quote}
use Rattle.read_scan.specs.Scan.{Reached}
use Rattle.read_action.proofs.Waiting.{Waits}
use Rattle.read_action.proofs.actions.find_quote.Given as goal

abbrev pub invariant-loop-b : goal.invariant-loop-b
invariant-loop-b l = (l.first ≤ l.at) × Reached l.s l.a l.at × Waits l.s l.a await_quote l.first l.at

abbrev pub decreases-loop-b : goal.decreases-loop-b
decreases-loop-b l = length l.s - l.at

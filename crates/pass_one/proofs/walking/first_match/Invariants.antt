use Prim.Native.Nat.{◌+◌, ◌≤◌}
use lib.ListN.{length}
use Rattle.pass_one.proofs.GoingLaws.{Searching}
use Rattle.pass_one.proofs.walking.first_match.Given as goal

abbrev pub invariant-loop-p : goal.invariant-loop-p
invariant-loop-p l = Searching l.items l.state l.line l.initial.marks l.marks l.ends l.p × (l.p ≤ length l.line + 1)

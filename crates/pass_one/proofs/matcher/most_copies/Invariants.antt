use Prim.Native.Nat.{◌-◌}
use lib.ListN.{length}
use Rattle.pass_one.proofs.RowLaws.{Counted}
use Rattle.pass_one.proofs.matcher.most_copies.Given as goal

abbrev pub invariant-loop-element : goal.invariant-loop-element
invariant-loop-element l = Counted l.items l.state l.line l.at l.w l.q l.n l.r

abbrev pub decreases-loop-element : goal.decreases-loop-element
decreases-loop-element l = length l.line - l.r

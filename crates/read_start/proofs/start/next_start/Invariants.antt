use Rattle.read_start.proofs.Seeking.{Sought}
use Rattle.read_start.proofs.start.next_start.Given as goal

abbrev pub invariant-loop-at : goal.invariant-loop-at
invariant-loop-at l = Sought l.s l.first l.at l.skip l.last l.a

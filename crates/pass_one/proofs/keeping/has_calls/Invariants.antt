use lib.ListN.{length}
use Rattle.pass_one.specs.Seen.{NoCall}
use Rattle.pass_lack.specs.Twos.{LetterIn, Pairs}
use Rattle.pass_one.proofs.keeping.has_calls.Given as goal

abbrev pub invariant-loop-rest : goal.invariant-loop-rest
invariant-loop-rest l = Pairs LetterIn l.rest × (Pairs NoCall l.rest → Pairs NoCall l.items)

abbrev pub decreases-loop-rest : goal.decreases-loop-rest
decreases-loop-rest l = length l.rest

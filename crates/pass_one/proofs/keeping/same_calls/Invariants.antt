use lib.ListN.{length}
use Rattle.lines.specs.State.{State}
use Rattle.form_state.specs.Access.{Holds}
use Rattle.pass_lack.specs.Twos.{LetterIn, Pairs}
use Rattle.pass_one.specs.Seen.{SameAt}
use Rattle.pass_one.proofs.keeping.same_calls.Given as goal

abbrev pub invariant-loop-rest : goal.invariant-loop-rest
invariant-loop-rest l = Pairs LetterIn l.rest × ((st st' : State) → Holds l.seen st → Holds l.state st' → Pairs (SameAt st st') l.rest → Pairs (SameAt st st') l.items)

abbrev pub decreases-loop-rest : goal.decreases-loop-rest
decreases-loop-rest l = length l.rest

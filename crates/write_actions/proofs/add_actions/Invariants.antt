use lib.ListN.{length}
use Rattle.write_put.proofs.Putting.{Left}
use Rattle.write_actions.specs.Items.{actions_text, Whole}
use Rattle.write_actions.proofs.add_actions.Given as goal

abbrev pub invariant-loop-rest : goal.invariant-loop-rest
invariant-loop-rest g l = let m = g.S.Sink in m.fits l.sink × Whole l.rest × Left m.adds l.start (actions_text 0 l.items) l.initial.sink l.n (actions_text 0 l.rest) l.sink

abbrev pub decreases-loop-rest : goal.decreases-loop-rest
decreases-loop-rest g l = length l.rest

use lib.ListN.{drop}
use Rattle.macros.specs.Write.{write_text}
use Rattle.write_put.proofs.Putting.{Left}
use Rattle.write_actions.proofs.add_text.Given as goal

abbrev pub invariant-loop-b : goal.invariant-loop-b
invariant-loop-b g l = let m = g.S.Sink in m.fits l.sink × Left m.adds l.first (write_text l.text) l.initial.sink l.n (write_text (drop l.b-index l.text)) l.sink

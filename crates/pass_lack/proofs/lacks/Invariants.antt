use lib.ListN.{length}
use Rattle.pass_lack.specs.Lacking.{SomeAbsent}
use Rattle.pass_lack.proofs.lacks.Given as goal

abbrev pub invariant-loop-rest : goal.invariant-loop-rest
invariant-loop-rest l =
    record {
      within : SomeAbsent l.present l.rest → SomeAbsent l.present l.items;
      left : SomeAbsent l.present l.items → SomeAbsent l.present l.rest;
    }

abbrev pub decreases-loop-rest : goal.decreases-loop-rest
decreases-loop-rest l = length l.rest

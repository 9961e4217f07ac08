use Prim.Native.Nat.{◌≤◌}
use lib.ListN.{length}
use Rattle.form_state.specs.Access.{IsState}
use Rattle.pass_replace.specs.Acting.{acts_in, Fits}
use Rattle.pass_replace.proofs.Acting.{Rest}
use Rattle.pass_replace.proofs.actions.act.Given as goal

abbrev pub invariant-loop-rest : goal.invariant-loop-rest
invariant-loop-rest l =
    record {
      state : IsState l.state;
      room : l.size ≤ 1054;
      fits : Fits l.rest;
      to_do : Rest (acts_in l.line l.pat l.ends) l.items l.initial.out l.initial.state l.initial.size l.rest l.out l.state l.size;
    }

abbrev pub decreases-loop-rest : goal.decreases-loop-rest
decreases-loop-rest l = length l.rest

use Prim.Native.Nat.{◌≤◌}
use mathlib.Core.Path.{◌≡◌}
use lib.ListN.{length}
use Rattle.form_state.specs.Access.{replaced}
use Rattle.form_fresh.specs.Ones.{ones}
use Rattle.form_fresh.proofs.put_ones.Given as goal

abbrev pub invariant-loop-i : goal.invariant-loop-i
invariant-loop-i l = (l.i ≤ 52) × (length l.state ≡ length l.initial.state) × (l.state ≡ replaced l.initial.state 28 (ones l.i))

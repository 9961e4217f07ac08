use Prim.Native.Nat.{◌≤◌}
use mathlib.Core.Path.{◌≡◌}
use lib.ListN.{length, take}
use Rattle.form_state.specs.Access.{replaced}
use Rattle.pass_one.proofs.keeping.copy_state.Given as goal

abbrev pub invariant-loop-i : goal.invariant-loop-i
invariant-loop-i l = (l.i ≤ length l.state) × (length l.seen ≡ length l.initial.seen) × (l.seen ≡ replaced l.initial.seen 0 (take l.i l.state))

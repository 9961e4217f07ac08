use Prim.Native.Nat.{◌+◌, ◌*◌, ◌≤◌}
use mathlib.Core.Path.{◌≡◌}
use lib.ListN.{drop}
use Rattle.form_table.specs.Walk.{walk}
use Rattle.form_table.specs.ActionWalk.{action_step, action_start}
use Rattle.check_table.specs.ActionCode.{state_of}
use Rattle.check_table.proofs.actions.walk_actions.Given as goal

abbrev pub invariant-loop-i : goal.invariant-loop-i
invariant-loop-i l = (l.s.spelled ≤ l.n + 22 * l.i) × (walk (action_step l.cmd l.k) (action_start l.n) l.items ≡ walk (action_step l.cmd l.k) (state_of l.s) (drop (2 * l.i) l.items))

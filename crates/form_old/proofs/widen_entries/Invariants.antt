use Prim.Native.Nat.{◌≤◌}
use mathlib.Core.Path.{◌≡◌}
use lib.ListN.{length, drop}
use Rattle.form_state.specs.Form.{entries_from}
use Rattle.form_state.specs.Access.{replaced}
use Rattle.form_old.specs.Old.{widened_entries}
use Rattle.form_old.proofs.widen_entries.Given as goal

abbrev pub invariant-loop-i : goal.invariant-loop-i
invariant-loop-i l = (l.i ≤ 520) × (length l.state ≡ length l.initial.state) × (l.state ≡ replaced l.initial.state entries_from (widened_entries l.i (drop entries_from l.old)))

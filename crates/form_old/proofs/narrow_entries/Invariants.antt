use Prim.Native.Nat.{◌≤◌}
use mathlib.Core.Path.{◌≡◌}
use lib.ListN.{length, drop}
use Rattle.form_state.specs.Form.{entries_from}
use Rattle.form_state.specs.Access.{replaced}
use Rattle.form_old.specs.Old.{narrowed_entries}
use Rattle.form_old.proofs.narrow_entries.Given as goal

abbrev pub invariant-loop-i : goal.invariant-loop-i
invariant-loop-i l = (l.i ≤ 520) × (length l.old ≡ length l.initial.old) × (l.old ≡ replaced l.initial.old entries_from (narrowed_entries l.i (drop entries_from l.state)))

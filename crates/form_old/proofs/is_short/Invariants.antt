use Prim.Native.Nat.{◌≤◌, ◌-◌, ◌*◌}
use mathlib.Core.Path.{◌≡◌}
use mathlib.Core.Bool.{◌&&◌}
use lib.ListN.{drop}
use Rattle.macros.specs.Bounds.{most_entry_bytes}
use Rattle.form_state.specs.Form.{entries_from, entry_count}
use Rattle.form_state.specs.Check.{blocks_check}
use Rattle.form_old.specs.Old.{short_check}
use Rattle.form_old.proofs.is_short.Given as goal

abbrev pub invariant-loop-i : goal.invariant-loop-i
invariant-loop-i l =
    (l.i ≤ 520)
    × (l.ok && blocks_check short_check most_entry_bytes (entry_count - l.i) (drop (most_entry_bytes * l.i) (drop entries_from l.state))
    ≡ blocks_check short_check most_entry_bytes entry_count (drop entries_from l.state))

use Prim.Native.Nat.{◌*◌, ◌-◌, ◌≤◌}
use mathlib.Core.Path.{◌≡◌}
use mathlib.Core.Bool.{◌&&◌}
use lib.ListN.{drop}
use Rattle.form_state.specs.Form.{stack_bytes}
use Rattle.macros.specs.Bounds.{most_entry_bytes}
use Rattle.form_state.specs.Check.{entry_check, blocks_check}
use Rattle.check_state.proofs.entries_fit.Given as goal

abbrev pub invariant-loop-i : goal.invariant-loop-i
invariant-loop-i l = (l.i ≤ 26) × (l.ok && blocks_check (blocks_check entry_check most_entry_bytes 20) stack_bytes (26 - l.i) (drop (stack_bytes * l.i) l.entries) ≡ blocks_check (blocks_check entry_check most_entry_bytes 20) stack_bytes 26 l.entries)

use Prim.Native.Nat.{◌*◌, ◌-◌, ◌≤◌}
use mathlib.Core.Path.{◌≡◌}
use mathlib.Core.Bool.{◌&&◌}
use lib.ListN.{drop}
use Rattle.macros.specs.Bounds.{most_entry_bytes}
use Rattle.form_state.specs.Check.{entry_check, blocks_check}
use Rattle.check_state.proofs.each_fits.Given as goal

abbrev pub invariant-loop-i : goal.invariant-loop-i
invariant-loop-i l = (l.i ≤ 20) × (l.ok && blocks_check entry_check most_entry_bytes (20 - l.i) (drop (most_entry_bytes * l.i) l.stack) ≡ blocks_check entry_check most_entry_bytes 20 l.stack)

use Prim.Native.Nat.{◌-◌, ◌≤◌}
use mathlib.Core.Path.{◌≡◌}
use mathlib.Core.Bool.{◌&&◌}
use lib.ListN.{drop}
use Rattle.form_state.specs.Check.{entry_check}
use Rattle.check_state.proofs.entry_fits.Given as goal

abbrev pub invariant-loop-i : goal.invariant-loop-i
invariant-loop-i l = (1 ≤ l.i) × (l.ok && entry_check (drop (l.i - 1) l.entry) ≡ entry_check l.entry)

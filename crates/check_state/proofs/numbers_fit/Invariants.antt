use Prim.Native.Nat.{◌*◌, ◌-◌, ◌≤◌}
use mathlib.Core.Path.{◌≡◌}
use mathlib.Core.Bool.{◌&&◌}
use lib.ListN.{drop}
use Rattle.form_state.specs.Check.{number_check, blocks_check}
use Rattle.check_state.proofs.numbers_fit.Given as goal

abbrev pub invariant-loop-i : goal.invariant-loop-i
invariant-loop-i l = (l.i ≤ 52) × (l.ok && blocks_check number_check 4 (52 - l.i) (drop (4 * l.i) l.numbers) ≡ blocks_check number_check 4 52 l.numbers)

use Prim.Native.Nat.{◌*◌, ◌-◌, ◌≤◌}
use mathlib.Core.Path.{◌≡◌}
use lib.ListN.{drop}
use Rattle.form_table.specs.Check.{slots_fit}
use Rattle.check_table.proofs.is_table.Given as goal

abbrev pub invariant-loop-k : goal.invariant-loop-k
invariant-loop-k l = (l.k ≤ 96) × (slots_fit 96 l.table ≡ slots_fit (96 - l.k) (drop (1024 * l.k) l.table))

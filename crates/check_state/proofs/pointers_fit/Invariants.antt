use mathlib.Core.Path.{◌≡◌}
use mathlib.Core.Bool.{◌&&◌}
use lib.ListN.{drop}
use Rattle.form_state.specs.Check.{pointers_check}
use Rattle.check_state.proofs.pointers_fit.Given as goal

abbrev pub invariant-loop-p : goal.invariant-loop-p
invariant-loop-p l = l.ok && pointers_check (drop l.p-index l.pointers) ≡ pointers_check l.pointers

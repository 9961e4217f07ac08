use Prim.Native.Nat.{◌+◌, ◌*◌, ◌-◌}
use mathlib.Core.Path.{ap, ◌∙◌}
use mathlib.Core.Bool.{Bool, ◌&&◌}
use native.Mathlib.Omega.{arith}
use lib.ListN.{drop}
use Rattle.form_state.specs.Check.{number_check, blocks_check}
use Rattle.form_state.proofs.Steps.{blocks_start, blocks_step, blocks_end, number_passes}
use Rattle.check_state.proofs.numbers_fit.Goals as goal

pub loop-i-init : goal.loop-i-init
loop-i-init c = (omega arith, blocks_start number_check 4 52 c.args.numbers.now)

pub loop-i-preserved : goal.loop-i-preserved
loop-i-preserved c =
    let l = c.args.numbers.now in
    (omega arith, ap (λ (t : Bool). t && blocks_check number_check 4 (52 - (c.loop-i.i + 1)) (drop (4 * (c.loop-i.i + 1)) l)) (number_passes l (4 * c.loop-i.i) c.loop-i.ok c.number_at-n.result c.number_at-n.ensures) ∙ blocks_step number_check 4 52 l c.loop-i.i c.loop-i.ok _ (omega arith) c.loop-i.invariant.1)

pub returns : goal.returns
returns c = blocks_end number_check 4 52 c.args.numbers.now c.loop-i.i c.loop-i.ok (omega arith) c.loop-i.invariant.1

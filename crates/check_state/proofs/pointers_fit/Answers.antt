use mathlib.Core.Path.{refl}
use native.Mathlib.Omega.{arith}
use Rattle.form_state.proofs.Steps.{pointers_step, pointers_end}
use Rattle.check_state.proofs.pointers_fit.Goals as goal

pub loop-p-init : goal.loop-p-init
loop-p-init c = refl

pub loop-p-preserved : goal.loop-p-preserved
loop-p-preserved c = (pointers_step c.args.pointers.now c.loop-p.p-index c.loop-p.ok _ (omega arith) c.loop-p.invariant)

pub returns : goal.returns
returns c = pointers_end c.args.pointers.now c.loop-p.p-index c.loop-p.ok (omega arith) c.loop-p.invariant

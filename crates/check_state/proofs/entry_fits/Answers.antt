use mathlib.Core.Path.{refl}
use native.Mathlib.Omega.{arith}
use Rattle.form_state.proofs.Steps.{entry_step, entry_end}
use Rattle.check_state.proofs.entry_fits.Goals as goal

pub loop-i-init : goal.loop-i-init
loop-i-init c = (omega arith, refl)

pub loop-i-preserved : goal.loop-i-preserved
loop-i-preserved c = (omega arith, entry_step c.args.entry.now c.loop-i.i c.loop-i.ok _ (omega arith) (omega arith) c.loop-i.invariant.1)

pub returns : goal.returns
returns c = entry_end c.args.entry.now c.loop-i.i c.loop-i.ok (omega arith) (omega arith) c.loop-i.invariant.1

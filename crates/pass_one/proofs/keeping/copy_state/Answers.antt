use mathlib.Core.Path.{refl, sym}
use native.Mathlib.Omega.{arith}
use lib.ListN.{length-set}
use Rattle.form_state.proofs.Replaced.{replaced_none}
use Rattle.pass_one.proofs.CallLaws.{copy_more, copy_done}
use Rattle.pass_one.proofs.keeping.copy_state.Goals as goal

pub loop-i-init : goal.loop-i-init
loop-i-init c = (omega arith, refl, sym (replaced_none c.args.seen.now 0))

pub loop-i-preserved : goal.loop-i-preserved
loop-i-preserved c = (omega arith, simp length-set c.loop-i.invariant.1, copy_more c.args.seen.now c.loop-i.seen c.args.state.now c.loop-i.i (omega arith) (omega arith) c.loop-i.invariant.2)

pub returns : goal.returns
returns c = copy_done c.args.seen.now c.loop-i.seen c.args.state.now c.loop-i.i (omega arith) (omega arith) c.loop-i.invariant.2

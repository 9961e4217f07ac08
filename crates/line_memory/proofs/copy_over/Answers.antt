use mathlib.Core.Path.{refl}
use native.Mathlib.Omega.{arith}
use lib.ListN.{length-set}
use lib.Seq.{paste-zero}
use Rattle.line_memory.proofs.Copying.{copy_more, copy_end}
use Rattle.line_memory.proofs.copy_over.Goals as goal

pub loop-i-init : goal.loop-i-init
loop-i-init c = (omega arith, refl, paste-zero c.args.to.now 0 c.args.from.now)

pub loop-i-preserved : goal.loop-i-preserved
loop-i-preserved c = (omega arith, simp length-set c.loop-i.invariant.1, copy_more c.args.to.now c.args.from.now c.loop-i.to c.loop-i.i (omega arith) (omega arith) c.loop-i.invariant.2)

pub shape_of-to : goal.shape_of-to
shape_of-to c = c.loop-i.invariant.1

pub returns : goal.returns
returns c = copy_end c.args.to.now c.args.from.now c.loop-i.to c.loop-i.i (omega arith) c.loop-i.invariant.2

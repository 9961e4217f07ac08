use native.Mathlib.Omega.{arith}
use lib.Seq.{paste-zero}
use Rattle.line_trace.proofs.Laws.{copied_more, copied_length, copied_all}
use Rattle.line_trace.proofs.put.Goals as goal

pub loop-i-init : goal.loop-i-init
loop-i-init c = (omega arith, paste-zero c.args.trace.now c.args.at c.args.text.now)

pub bounds-trace-at : goal.bounds-trace-at
bounds-trace-at c = omega (arith, copied_length c.args.trace.now c.args.text.now c.args.at (omega arith) c.loop-i.trace c.loop-i.i c.loop-i.invariant.1 (omega arith))

pub loop-i-preserved : goal.loop-i-preserved
loop-i-preserved c = (omega arith, copied_more c.args.trace.now c.args.text.now c.args.at (omega arith) c.loop-i.trace c.loop-i.i c.loop-i.invariant.1 (omega arith))

pub shape_of-trace : goal.shape_of-trace
shape_of-trace c = copied_length c.args.trace.now c.args.text.now c.args.at (omega arith) c.loop-i.trace c.loop-i.i c.loop-i.invariant.1 (omega arith)

pub returns : goal.returns
returns c = copied_all c.args.trace.now c.args.text.now c.args.at (omega arith) c.loop-i.trace c.loop-i.i _ c.loop-i.invariant.1 (omega arith) (omega arith)

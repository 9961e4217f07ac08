use lib.ListN.{length-set}
use Rattle.word_find.proofs.Marking.{dash_next, dash_done}
use native.Mathlib.Omega.{arith}
use Rattle.word_find.proofs.cover.put_dash.Goals as goal

pub loop-i-preserved : goal.loop-i-preserved
loop-i-preserved c = (simp length-set c.loop-i.invariant.0, dash_next c.args.marks.now c.loop-i.marks c.args.word.now c.loop-i.later c.loop-i.i (omega arith) (omega arith) (omega arith) c.loop-i.invariant.1)

pub returns : goal.returns
returns c = dash_done c.args.marks.now c.loop-i.marks c.args.word.now c.loop-i.later c.loop-i.i (omega arith) c.loop-i.invariant.1

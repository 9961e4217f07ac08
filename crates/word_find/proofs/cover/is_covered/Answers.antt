use mathlib.Core.Path.{refl}
use Rattle.word_find.proofs.Marking.{first_marked, next_marked, answered}
use native.Mathlib.Omega.{arith}
use Rattle.word_find.proofs.cover.is_covered.Goals as goal

pub loop-k-init : goal.loop-k-init
loop-k-init c = (refl, first_marked c.args.pattern.now _ _ c.start.ensures)

pub loop-k-preserved : goal.loop-k-preserved
loop-k-preserved c = (omega (arith, c.put.auto.marks, c.loop-k.invariant.0), next_marked c.args.pattern.now c.loop-k.marks _ c.args.word.now c.loop-k.k (omega arith) (omega arith) c.loop-k.invariant.1 c.put.ensures)

pub returns : goal.returns
returns c = answered c.args.pattern.now c.loop-k.marks c.args.word.now c.loop-k.k (omega arith) c.loop-k.invariant.1

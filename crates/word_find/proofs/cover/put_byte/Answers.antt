use lib.ListN.{length, length-set}
use mathlib.Core.Path.{◌≡◌}
use Rattle.word_find.proofs.Marking.{byte_more, byte_done}
use native.Mathlib.Omega.{arith}
use Rattle.word_find.proofs.cover.put_byte.Goals as goal

pub loop-i-preserved : goal.loop-i-preserved
loop-i-preserved c = (simp length-set c.loop-i.invariant.0, byte_more c.args.marks.now c.loop-i.marks c.args.word.now c.args.c c.loop-i.i (omega arith) (omega arith) c.loop-i.invariant.1 c.behind.ensures)

pub returns : goal.returns
returns c =
    let e : c.loop-i.i ≡ length c.args.word.now = omega arith in
    rw e at (byte_done c.args.marks.now c.loop-i.marks c.args.word.now c.args.c c.loop-i.i e (omega arith) c.loop-i.invariant.1)

use native.Mathlib.Omega.{arith}
use Rattle.write_put.proofs.Putting.{added_as, left_all, left_next, left_done}
use Rattle.write_actions.proofs.Steps.{text_step_lem, text_end}
use Rattle.write_actions.proofs.add_text.Goals as goal

pub loop-b-init : goal.loop-b-init
loop-b-init g c = (c.requires, left_all g.met.S.Sink.laws)

pub loop-b-preserved : goal.loop-b-preserved
loop-b-preserved g c =
    let laws = g.met.S.Sink.laws in
    let inv = c.loop-b.invariant in
    (laws.kept inv.0 c.add-n.ensures, left_next laws inv.1 (text_step_lem c.args.text.now c.loop-b.b-index (omega arith)) (added_as laws c.literal.ensures c.add-n.ensures))

pub returns : goal.returns
returns g c = left_done g.met.S.Sink.laws c.loop-b.invariant.1 (text_end c.args.text.now c.loop-b.b-index (omega arith))

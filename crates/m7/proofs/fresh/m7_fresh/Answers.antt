use Rattle.line_answer.proofs.Laws.{no_place}
use Rattle.m7.proofs.Results.{fresh_other, fresh_stored}
use Rattle.m7.proofs.fresh.m7_fresh.Goals as goal

pub refusal-requires : goal.refusal-requires
refusal-requires c = no_place

pub returns-then-state-ne-STATE_BYTES : goal.returns-then-state-ne-STATE_BYTES
returns-then-state-ne-STATE_BYTES c = fresh_other c.args.state.now c.if-state-ne-STATE_BYTES.true c.refusal.ensures

pub put_fresh-requires : goal.put_fresh-requires
put_fresh-requires c = c.if-state-ne-STATE_BYTES.false

pub shape_of-state : goal.shape_of-state
shape_of-state c = c.put_fresh.auto.state

pub returns : goal.returns
returns c = fresh_stored c.args.state.now c.if-state-ne-STATE_BYTES.false c.put_fresh.ensures c.taken.ensures

use Rattle.program_in.proofs.Lines.{turn_part, turn_ended}
use Rattle.program_in.proofs.one_turn.Goals as goal

pub take_bytes-requires : goal.take_bytes-requires
take_bytes-requires g c = (c.fill-reading.ensures.within, c.if-reading.true, rw c.fill-reading.ensures.held c.requires.1)

pub returns-then-reading : goal.returns-then-reading
returns-then-reading g c = turn_part c.fill-reading.ensures c.take_bytes.ensures

pub returns : goal.returns
returns g c = turn_ended c.fill-reading.ensures c.if-reading.false

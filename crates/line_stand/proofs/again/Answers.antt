use Rattle.line_stand.proofs.Standing.{after_fits}
use Rattle.line_stand.proofs.again.Goals as goal

pub returns : goal.returns
returns c = after_fits c.requires c.trace_pass-lines.ensures c.in-Some.is c.lay_out.ensures c.note.ensures c.close.ensures

use Rattle.m7.proofs.Measuring.{told_written, told_unwritten}
use Rattle.m7.proofs.measure.read_to_end.Goals as goal

pub returns-in-Ok : goal.returns-in-Ok
returns-in-Ok c = told_written c.in-Ok.is c.with_size.ensures

pub returns-in-Err : goal.returns-in-Err
returns-in-Err c = told_unwritten c.in-Err.is c.from.ensures c.with_size-in-Err.ensures

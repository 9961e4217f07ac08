use Rattle.line_end.proofs.Ending.{obeyed}
use Rattle.line_end.proofs.obey.Goals as goal

pub returns : goal.returns
returns c = obeyed c.requires c.in-Ok-Control.field-0 c.in-Ok-Control.is (rw c.in-Ok-Control.is at c.in-Ok-Control.field-0-is) c.control-order.ensures c.control-order.auto.state c.is_err.ensures.value c.lay_out_if.ensures

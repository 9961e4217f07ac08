use Rattle.line_passes.proofs.Stepping.{handed_on, ends_used, ends_over, ends_from}
use Rattle.line_passes.proofs.passes.all_passes.Goals as goal

pub returns-in_err-end : goal.returns-in_err-end
returns-in_err-end c = rw (handed_on c.from_residual.ensures) (ends_from (ends_used c.loop-end.invariant.0 c.in_err-end.ensures) c.loop-end.invariant.2 c.loop-end.invariant.3)

pub returns-in-Over : goal.returns-in-Over
returns-in-Over c = ends_from (ends_over c.loop-end.invariant.0 c.in_ok-end.ensures c.in-Over.is) c.loop-end.invariant.2 c.loop-end.invariant.3

pub returns-in_err-stand-in-Pass : goal.returns-in_err-stand-in-Pass
returns-in_err-stand-in-Pass c = rw (handed_on c.from_residual-in_err-stand-in-Pass.ensures) (ends_from c.in_err-stand-in-Pass.ensures.goes c.loop-end.invariant.2 c.loop-end.invariant.3)

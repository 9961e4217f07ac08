use Rattle.line_passes.proofs.Stepping.{handed_on}
use Rattle.line_feed.proofs.Replying.{fits, feeds_refused, feeds_taken}
use Rattle.line_feed.proofs.feed.Goals as goal

pub returns-in_err-first_refusal : goal.returns-in_err-first_refusal
returns-in_err-first_refusal c = rw (handed_on c.from_residual.ensures) (feeds_refused _ _ c.in_err-first_refusal.ensures)

pub take_line-requires : goal.take_line-requires
take_line-requires c = (c.requires, fits c.in_ok-first_refusal.ensures)

pub returns : goal.returns
returns c = feeds_taken _ _ c.in_ok-first_refusal.ensures c.take_line.ensures

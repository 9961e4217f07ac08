use Rattle.m7.proofs.Results.{octets_given}
use Rattle.m7.proofs.FeedResults.{small, feeds}
use Rattle.program.proofs.feed_line.Goals as goal

pub feed-fed-requires : goal.feed-fed-requires
feed-fed-requires c = c.requires

pub answer_of-requires : goal.answer_of-requires
answer_of-requires c =
    let args = c.args in
    let ol = octets_given args.line.now c.shared_slice_known-1.given in
    small _ _ c.requires c.feed-fed.ensures ol

pub shape_of-table : goal.shape_of-table
shape_of-table c = c.feed-fed.auto.table

pub shape_of-state : goal.shape_of-state
shape_of-state c = c.feed-fed.auto.state

pub shape_of-output : goal.shape_of-output
shape_of-output c = c.feed-fed.auto.output

pub shape_of-trace : goal.shape_of-trace
shape_of-trace c = c.feed-fed.auto.trace

pub returns : goal.returns
returns c = feeds _ _ c.requires c.feed-fed.ensures c.answer_of.ensures

use Rattle.m7.proofs.FeedResults.{hosts}
use Rattle.m7.proofs.feed.host_refusal.Goals as goal

pub returns : goal.returns
returns c = hosts _ c.are_sized-sized.ensures c.is_table-is_table.ensures c.is_state-is_state.ensures c.first_due.ensures

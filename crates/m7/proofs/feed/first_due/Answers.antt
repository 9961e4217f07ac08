use Rattle.m7.proofs.FeedResults.{due_size, due_table, due_state, due_none}
use Rattle.m7.proofs.feed.first_due.Goals as goal

pub returns-then-not-sized : goal.returns-then-not-sized
returns-then-not-sized c = due_size c.args.table c.args.state (c.if-not-sized.true)

pub returns-then-not-table : goal.returns-then-not-table
returns-then-not-table c = due_table c.args.state (c.if-not-sized.false) (c.if-not-table.true)

pub returns-then-not-state : goal.returns-then-not-state
returns-then-not-state c = due_state (c.if-not-sized.false) (c.if-not-table.false) (c.if-not-state.true)

pub returns : goal.returns
returns c = due_none (c.if-not-sized.false) (c.if-not-table.false) (c.if-not-state.false)

use Rattle.m7.proofs.FeedResults.{sized_table, sized_state, sized_output, sized_trace}
use Rattle.m7.proofs.feed.are_sized.Goals as goal

pub returns-then-table-ne-TABLE_BYTES : goal.returns-then-table-ne-TABLE_BYTES
returns-then-table-ne-TABLE_BYTES c = sized_table _ c.if-table-ne-TABLE_BYTES.true

pub returns-then-state-ne-STATE_BYTES : goal.returns-then-state-ne-STATE_BYTES
returns-then-state-ne-STATE_BYTES c = sized_state _ c.if-table-ne-TABLE_BYTES.false c.if-state-ne-STATE_BYTES.true

pub returns-then-output-ne-LINE_BYTES : goal.returns-then-output-ne-LINE_BYTES
returns-then-output-ne-LINE_BYTES c = sized_output _ c.if-table-ne-TABLE_BYTES.false c.if-state-ne-STATE_BYTES.false c.if-output-ne-LINE_BYTES.true

pub returns : goal.returns
returns c = sized_trace _ c.if-table-ne-TABLE_BYTES.false c.if-state-ne-STATE_BYTES.false c.if-output-ne-LINE_BYTES.false

use Rattle.line_answer.proofs.Laws.{no_place}
use Rattle.m7.proofs.Results.{read_other}
use Rattle.m7.proofs.read.m7_read.Goals as goal

pub refusal-requires : goal.refusal-requires
refusal-requires c = no_place

pub returns-then-table-ne-TABLE_BYTES : goal.returns-then-table-ne-TABLE_BYTES
returns-then-table-ne-TABLE_BYTES c = read_other c.args.file.now c.args.table.now c.if-table-ne-TABLE_BYTES.true c.refusal.ensures

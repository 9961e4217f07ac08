use Rattle.line_answer.proofs.Laws.{no_place}
use Rattle.m7.proofs.RecoverResults.{other_faults, other_table}
use Rattle.m7.proofs.recover.m7_recover.Goals as goal

pub refusal-requires : goal.refusal-requires
refusal-requires c = no_place

pub returns-then-table-ne-TABLE_BYTES : goal.returns-then-table-ne-TABLE_BYTES
returns-then-table-ne-TABLE_BYTES c = let args = c.args in other_table args.file.now (record { table = args.table.now; faults = args.faults.now }) c.refusal.ensures c.if-table-ne-TABLE_BYTES.true

pub refusal-requires-then-faults-ne-FAULTS_BYTES : goal.refusal-requires-then-faults-ne-FAULTS_BYTES
refusal-requires-then-faults-ne-FAULTS_BYTES c = no_place

pub returns-then-faults-ne-FAULTS_BYTES : goal.returns-then-faults-ne-FAULTS_BYTES
returns-then-faults-ne-FAULTS_BYTES c = let args = c.args in other_faults args.file.now (record { table = args.table.now; faults = args.faults.now }) c.refusal-then-faults-ne-FAULTS_BYTES.ensures c.if-table-ne-TABLE_BYTES.false c.if-faults-ne-FAULTS_BYTES.true

use Rattle.read_scan.proofs.Laws.{handed_on}
use Rattle.read_file.proofs.Adding.{slot_full, slot_fault, slot_made}
use Rattle.read_file.proofs.file.next_slot.Goals as goal

pub returns-then-n-ge-MOST_MACROS : goal.returns-then-n-ge-MOST_MACROS
returns-then-n-ge-MOST_MACROS c =
    rw c.at.ensures (slot_full c.args.file.now c.args.at c.args.n c.args.base c.args.table.now (rw c.in-Some.is at c.in_ok-a.ensures) c.if-n-ge-MOST_MACROS.true)

pub returns-in_err-built : goal.returns-in_err-built
returns-in_err-built c =
    rw (handed_on c.from_residual-in_err-built.ensures)
    (slot_fault c.args.file.now c.args.at c.args.n c.args.base c.args.table.now (rw c.in-Some.is at c.in_ok-a.ensures) _ c.if-n-ge-MOST_MACROS.false c.in_err-built.ensures.from.1)

pub returns : goal.returns
returns c =
    slot_made c.args.file.now c.args.at c.args.n c.args.base c.args.table.now (rw c.in-Some.is at c.in_ok-a.ensures) c.if-n-ge-MOST_MACROS.false c.in_ok-built.ensures.from c.store.ensures

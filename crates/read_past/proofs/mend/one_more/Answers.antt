use Rattle.std.proofs.Common.{arith, refl}
use Rattle.read_past.proofs.Standing.{list_size, moved_end, moved_macro, moved_refused, refusal_place, table_size}
use Rattle.read_past.proofs.mend.one_more.Goals as goal

pub next_slot-requires : goal.next_slot-requires
next_slot-requires c = (c.requires.1.reached, λ l. omega (arith, table_size c.requires.1))

pub note-requires : goal.note-requires
note-requires c =
    let args = c.args in
    let z = c.in-Err.ensures in
    (list_size c.requires.1, (refusal_place args.file.now args.so_far.at args.so_far.macros args.so_far.faults args.table.now args.faults.now c.requires.1 _ z.0 c.in-Err.e z.1).1, c.requires.0)

pub returns-in-Ok-Some : goal.returns-in-Ok-Some
returns-in-Ok-Some c =
    let args = c.args in
    moved_macro args.file.now args.so_far.at args.so_far.macros args.so_far.faults args.table.now args.faults.now c.requires.1 _ _ _ refl (rw c.in-Ok-Some.field-0-is at c.in-Ok-Some.ensures)

pub returns-in-Ok-None : goal.returns-in-Ok-None
returns-in-Ok-None c =
    let args = c.args in
    let z = rw c.in-Ok-None.field-0-is at c.in-Ok-None.ensures in
    moved_end args.file.now args.so_far.at args.so_far.macros args.so_far.faults args.table.now args.faults.now c.requires.1 _ z.0 z.1

pub returns-in-Err : goal.returns-in-Err
returns-in-Err c =
    let args = c.args in
    let z = c.in-Err.ensures in
    moved_refused args.file.now args.so_far.at args.so_far.macros args.so_far.faults args.table.now args.faults.now c.requires.1 _ z.0 c.in-Err.e z.1 _ _ (rw c.from.ensures at c.note.ensures)

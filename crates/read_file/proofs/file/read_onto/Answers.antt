use Rattle.std.proofs.Common.{arith}
use Rattle.read_scan.proofs.Laws.{handed_on}
use Rattle.form_items.proofs.Writing.{wrote_fill}
use Rattle.read_file.proofs.Restoring.{lent_size, lent_count, onto_not_plain, plain_file, onto_table, onto_refused}
use Rattle.read_file.proofs.file.read_onto.Goals as goal

pub returns-in_err-whole_file : goal.returns-in_err-whole_file
returns-in_err-whole_file c = rw (handed_on c.from_residual.ensures) (onto_not_plain _ _ _ _ c.in_err-whole_file.ensures)

pub add_macros-requires : goal.add_macros-requires
add_macros-requires c = (lent_size c.requires, lent_count c.requires)

pub slice_bounds-fill-end : goal.slice_bounds-fill-end
slice_bounds-fill-end c =
    let a = c.in-Err.ensures in
    omega (arith, c.add_macros.auto.table, lent_size c.requires, lent_count c.requires, a.few, a.counted)

pub returns-in-Ok : goal.returns-in-Ok
returns-in-Ok c =
    let p = plain_file _ c.in_ok-whole_file.ensures in
    onto_table c.args.file.now c.args.count c.args.table.now c.add_macros.new.table p.0 p.1 c.in-Ok.ensures

pub returns-in-Err : goal.returns-in-Err
returns-in-Err c =
    let p = plain_file _ c.in_ok-whole_file.ensures in
    let a = c.in-Err.ensures in
    onto_refused c.args.file.now c.args.count c.args.table.now c.add_macros.new.table p.0 p.1 c.in-Err.stopped a _
    (wrote_fill _ _ _ _ _ 0 (omega arith) (omega (arith, c.add_macros.auto.table, lent_size c.requires, a.few, a.counted)) (c.fill.ensures.after (λ y e. e)))

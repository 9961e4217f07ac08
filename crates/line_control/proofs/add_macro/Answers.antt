use Rattle.std.proofs.Common.{arith, ◌∙◌}
use Rattle.read_scan.proofs.Laws.{handed_on}
use Rattle.line_memory.proofs.Slotting.{table_size}
use Rattle.line_control.proofs.Controls.{add_wrong, add_more}
use Rattle.line_control.proofs.add_macro.Goals as goal

pub returns-in_err-n : goal.returns-in_err-n
returns-in_err-n c = rw (handed_on c.from_residual.ensures) (add_wrong c.args.table.now _ c.args.count c.args.rest.now _ c.in_err-n.ensures)

pub one_more-requires : goal.one_more-requires
one_more-requires c =
    (omega (arith, c.requires.0.counted, c.requires.0.is_table.accepted.count), c.read_onto.auto.table ∙ table_size c.args.table.now c.requires.0.macros c.requires.0.is_table)

pub returns : goal.returns
returns c = add_more c.args.table.now _ c.args.count c.args.rest.now c.in_ok-n.ensures c.requires.1 _ c.one_more.ensures

use Rattle.std.proofs.Common.{arith, refl, ◌∙◌}
use Rattle.read_file.proofs.Adding.{adds_none, adds_ended, adds_refused, adds_more}
use Rattle.read_file.proofs.file.add_macros.Goals as goal

pub loop-next-init : goal.loop-next-init
loop-next-init c = (omega arith, refl, adds_none _ _ _ c.requires.1)

pub loop-next-preserved : goal.loop-next-preserved
loop-next-preserved c =
    let loop = c.loop-next in
    let m = rw c.in-Ok-Some.field-0-is at c.in-Ok-Some.ensures in
    (m.reached, c.next_slot.auto.table ∙ loop.invariant.1, adds_more c.args.file.now c.args.count c.args.table.now loop.table loop.n loop.at loop.invariant.2 _ m)

pub returns-in-Ok-None : goal.returns-in-Ok-None
returns-in-Ok-None c =
    let loop = c.loop-next in
    adds_ended c.args.file.now c.args.count c.args.table.now loop.table loop.n loop.at loop.invariant.2 _ (rw c.in-Ok-None.field-0-is at c.in-Ok-None.ensures)

pub returns-in-Err : goal.returns-in-Err
returns-in-Err c =
    let loop = c.loop-next in
    adds_refused c.args.file.now c.args.count c.args.table.now loop.table loop.n loop.at loop.invariant.2 _ _ c.in-Err.ensures

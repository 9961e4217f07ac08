use Rattle.read_scan.proofs.Laws.{handed_on}
use Rattle.read_action.proofs.Replacing.{marked_none, marked_call, marked_literal}
use Rattle.read_action.proofs.actions.marked.Goals as goal

pub returns-in_err-b : goal.returns-in_err-b
returns-in_err-b c = rw (handed_on c.from_residual.ensures) (marked_none c.args.out.now c.args.out.now c.args.n c.args.tags c.args.counter c.requires.0 c.in_err-b.ensures)

pub returns-then-b-eq40 : goal.returns-then-b-eq40
returns-then-b-eq40 c = marked_call _ _ _ _ c.args.counter c.requires.0 c.in_ok-b.ensures c.if-b-eq40.true _ c.call.ensures.from

pub returns : goal.returns
returns c = marked_literal _ _ _ _ c.args.counter c.requires.0 c.in_ok-b.ensures c.if-b-eq40.false c.mark_byte.ensures c.put_item.ensures

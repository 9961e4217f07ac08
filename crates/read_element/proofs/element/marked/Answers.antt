use Rattle.read_scan.proofs.Laws.{handed_on}
use Rattle.read_element.proofs.Elements.{mark_fault, mark_called, mark_itself}
use Rattle.read_element.proofs.element.marked.Goals as goal

pub returns-in_err-b : goal.returns-in_err-b
returns-in_err-b c = rw (handed_on c.from_residual.ensures) (mark_fault c.args.end c.args.sign c.in_err-b.ensures)

pub returns-then-b-eq40 : goal.returns-then-b-eq40
returns-then-b-eq40 c = mark_called c.args.end c.in_ok-b.ensures c.args.sign c.if-b-eq40.true c.called.ensures

pub returns : goal.returns
returns c = mark_itself c.args.end c.in_ok-b.ensures c.args.sign c.requires.1 c.if-b-eq40.false c.with_closure.ensures

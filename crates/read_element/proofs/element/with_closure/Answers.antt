use Rattle.read_scan.proofs.Laws.{handed_on}
use Rattle.read_element.proofs.Elements.{joins_fault, joins_once, joins_star_fault, joins_zero, joins_one}
use Rattle.read_element.proofs.element.with_closure.Goals as goal

pub returns-in_err-b : goal.returns-in_err-b
returns-in_err-b c = rw (handed_on c.from_residual.ensures) (joins_fault c.args.unit c.args.end c.in_err-b.ensures)

pub returns-then-b-ne42 : goal.returns-then-b-ne42
returns-then-b-ne42 c = rw c.item.ensures (joins_once c.args.unit c.args.end c.in_ok-b.ensures c.if-b-ne42.true)

pub returns-in_err-d : goal.returns-in_err-d
returns-in_err-d c = rw (handed_on c.from_residual-in_err-d.ensures) (joins_star_fault c.args.unit c.args.end c.in_ok-b.ensures c.if-b-ne42.false c.in_err-d.ensures)

pub returns-then-d-eq45 : goal.returns-then-d-eq45
returns-then-d-eq45 c = rw c.item-then-d-eq45.ensures (joins_zero c.args.unit c.args.end c.in_ok-b.ensures c.if-b-ne42.false c.in_ok-d.ensures c.if-d-eq45.true)

pub returns : goal.returns
returns c = rw c.item-2.ensures (joins_one c.args.unit c.args.end c.in_ok-b.ensures c.if-b-ne42.false c.in_ok-d.ensures c.if-d-eq45.false)

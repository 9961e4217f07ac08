use Rattle.read_element.proofs.Elements.{opened_complement, opened_members}
use Rattle.read_element.proofs.element.class.Goals as goal

pub returns-then-b-eq126 : goal.returns-then-b-eq126
returns-then-b-eq126 c = opened_complement c.in_ok-b.ensures c.if-b-eq126.true c.class_unit.ensures

pub returns : goal.returns
returns c = opened_members c.in_ok-b.ensures c.if-b-eq126.false c.class_unit-2.ensures

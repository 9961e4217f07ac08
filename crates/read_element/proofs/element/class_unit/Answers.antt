use Rattle.read_element.proofs.Elements.{class_made}
use Rattle.read_element.proofs.element.class_unit.Goals as goal

pub returns : goal.returns
returns c = class_made c.args.unit c.in_ok-q.ensures.from c.requires.2 c.with_closure.ensures

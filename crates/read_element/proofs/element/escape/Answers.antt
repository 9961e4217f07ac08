use Rattle.read_element.proofs.Elements.{escape_made}
use Rattle.read_element.proofs.element.escape.Goals as goal

pub returns : goal.returns
returns c = escape_made c.args.end c.in_ok-e.ensures c.escaped_byte-b.ensures c.with_closure.ensures

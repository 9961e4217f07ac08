use Rattle.line_begin.proofs.Preparing.{prepared_before, prepared_first}
use Rattle.line_begin.proofs.prepare.Goals as goal

pub returns-then-before-ne0 : goal.returns-then-before-ne0
returns-then-before-ne0 c = prepared_before c.requires c.if-before-ne0.true

pub returns : goal.returns
returns c = prepared_first c.requires c.if-before-ne0.false c.calls_act.ensures

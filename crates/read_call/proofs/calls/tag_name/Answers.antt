use mathlib.Core.Path.{refl}
use Rattle.read_scan.proofs.Laws.{handed_on}
use Rattle.read_call.proofs.Ending.{tag_wrong, tag_none, tag_named_lem}
use Rattle.read_call.proofs.calls.tag_name.Goals as goal

pub returns-then-b-ne44 : goal.returns-then-b-ne44
returns-then-b-ne44 c = let pre = c.requires in rw c.at.ensures (tag_wrong pre.0 c.wrong_byte.result pre.1 pre.2 c.if-b-ne44.true c.wrong_byte.ensures)

pub returns-in_err-c : goal.returns-in_err-c
returns-in_err-c c = let pre = c.requires in rw (handed_on c.from_residual.ensures) (tag_none pre.0 c.if-b-ne44.false c.in_err-c.ensures refl)

pub returns : goal.returns
returns c = let pre = c.requires in tag_named_lem pre.0 c.if-b-ne44.false c.call_byte.ensures c.in_ok-c.was c.name.result c.name.ensures

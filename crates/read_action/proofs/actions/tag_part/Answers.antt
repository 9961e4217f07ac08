use Rattle.read_scan.proofs.Laws.{handed_on}
use Rattle.read_action.proofs.Replacing.{brace_none, brace_refused, brace_stored}
use Rattle.read_action.proofs.actions.tag_part.Goals as goal

pub returns-in_err-number : goal.returns-in_err-number
returns-in_err-number c = rw (handed_on c.from_residual.ensures) (brace_none _ _ _ c.args.out.now c.args.out.now c.args.n c.args.tags c.requires.0 c.in_err-number.ensures)

pub returns-then-unclosed : goal.returns-then-unclosed
returns-then-unclosed c = rw c.at.ensures (brace_refused _ _ _ c.args.out.now c.args.out.now c.args.n c.args.tags c.requires.0 c.in_ok-number.ensures c.if-unclosed.ensures _ c.tag_fault.ensures)

pub returns : goal.returns
returns c = brace_stored _ _ _ _ _ _ _ c.requires.0 c.in_ok-number.ensures c.unwrap.ensures c.if-unclosed.ensures c.requires.2 c.put_item.ensures

use Rattle.read_scan.proofs.Laws.{handed_on}
use Rattle.read_action.proofs.Replacing.{escape_none, escape_done}
use Rattle.read_action.proofs.actions.escape_part.Goals as goal

pub returns-in_err-e : goal.returns-in_err-e
returns-in_err-e c = rw (handed_on c.from_residual.ensures) (escape_none c.args.out.now c.args.out.now c.args.n c.requires.0 c.in_err-e.ensures)

pub returns : goal.returns
returns c = escape_done _ _ _ c.requires.0 c.in_ok-e.ensures c.escaped_byte.ensures c.put_item.ensures

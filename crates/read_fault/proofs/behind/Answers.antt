use Rattle.std.proofs.Common.{sym, ◌∙◌}
use Rattle.read_fault.proofs.Searching.{behind_position}
use Rattle.read_fault.proofs.behind.Goals as goal

pub returns-in_err-k : goal.returns-in_err-k
returns-in_err-k c = c.from_residual.ensures ∙ sym (behind_position c.args.s.now c.args.q c.in_err-k.ensures)

pub returns : goal.returns
returns c = sym (behind_position c.args.s.now c.args.q c.in_ok-k.ensures)

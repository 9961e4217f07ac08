use Rattle.read_scan.proofs.Laws.{handed_on}
use Rattle.read_command.proofs.Commanding.{command_none, command_call, command_plain}
use Rattle.read_command.proofs.commands.marked_command.Goals as goal

pub returns-in_err-b : goal.returns-in_err-b
returns-in_err-b c = rw (handed_on c.from_residual.ensures) (command_none c.args.out.now c.args.out.now c.args.n c.args.before c.args.tags c.args.counter c.requires.0 c.in_err-b.ensures)

pub returns-then-b-eq40 : goal.returns-then-b-eq40
returns-then-b-eq40 c =
    command_call c.args.out.now c.call.new.out c.args.n c.args.before c.args.tags c.args.counter c.requires.0 c.in_ok-b.ensures c.if-b-eq40.true _ (rw c.site_by.ensures at c.call.ensures.from)

pub returns : goal.returns
returns c = command_plain c.args.out.now c.args.out.now c.args.n c.args.before c.args.tags c.args.counter c.requires.0 c.in_ok-b.ensures c.if-b-eq40.false

use Rattle.read_action.proofs.Replacing.{no_mark}
use Rattle.read_command.proofs.Commanding.{command_out, command_text}
use Rattle.read_command.proofs.commands.command.Goals as goal

pub returns-then-b-stray_byte : goal.returns-then-b-stray_byte
returns-then-b-stray_byte c =
    rw c.at.ensures (command_out c.args.out.now c.args.n c.args.before c.args.tags c.requires.0 c.stray_byte.ensures c.if-b-stray_byte.true)

pub returns : goal.returns
returns c =
    let m = no_mark c.is_mark.ensures c.if-is_mark.false in
    command_text c.args.out.now c.args.n c.args.before c.args.tags c.requires.0 c.stray_byte.ensures c.requires.1 c.if-b-stray_byte.false m.0 m.1

use Rattle.read_command.proofs.Commanding.{commands_left}
use Rattle.read_command.proofs.commands.commands.Goals as goal

pub returns : goal.returns
returns c =
    let zeros = c.or_zeros in
    let items = c.commands_items-read in
    rw zeros.ensures.0 (commands_left items.new.out items.result items.ensures zeros.ensures.1 items.auto.out)

use Rattle.check_table.specs.ActionCode.{spot_of}
use Rattle.check_table.proofs.actions.low_step.Goals as goal

pub returns : goal.returns
unfolding spot_of
returns c = c.at.ensures

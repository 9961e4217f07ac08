use Rattle.line_passes.proofs.Starting.{state_length}
use Rattle.line_feed.proofs.taking.take_line.Goals as goal

pub is_traced-requires : goal.is_traced-requires
is_traced-requires c = state_length c.requires.0.own.state

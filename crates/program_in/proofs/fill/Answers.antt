use Rattle.program_in.proofs.Lines.{filled_none}
use Rattle.program_in.proofs.fill.Goals as goal

pub returns-then-from : goal.returns-then-from
returns-then-from g c = filled_none c.args.from c.args.block.now c.requires

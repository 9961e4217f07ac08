use mathlib.Core.Path.{◌∙◌}
use Rattle.write_file.proofs.Files.{limit_least}
use Rattle.write_file.proofs.slots.limit_of.Goals as goal

pub returns : goal.returns
returns c = c.min.ensures ∙ limit_least c.args.start

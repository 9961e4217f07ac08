use mathlib.Core.Path.{◌∙◌}
use Rattle.form_marks.proofs.ByteLaws.{byte_bit}
use Rattle.form_marks.proofs.bit.Goals as goal

pub returns : goal.returns
returns c = c.from.ensures ∙ byte_bit c.args.t

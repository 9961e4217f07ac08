use Rattle.macros.specs.Macro.{among}
use Rattle.form_marks.proofs.ByteLaws.{or_none}
use Rattle.form_marks.proofs.is_common.Goals as goal

pub returns : goal.returns
unfolding among
returns c = rw or_none

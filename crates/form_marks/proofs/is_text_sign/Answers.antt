use Rattle.macros.specs.Macro.{among}
use Rattle.form_marks.proofs.is_text_sign.Goals as goal

pub returns : goal.returns
unfolding among
returns c = rw c.is_common.ensures

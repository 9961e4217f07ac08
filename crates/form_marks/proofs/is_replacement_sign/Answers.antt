use Rattle.macros.specs.Macro.{among}
use Rattle.form_marks.proofs.ByteLaws.{or_assoc, or_none}
use Rattle.form_marks.proofs.is_replacement_sign.Goals as goal

pub returns : goal.returns
unfolding among
returns c = rw c.is_common.ensures (simp (or_assoc, or_none))

use mathlib.Core.Path.{refl, sym, ◌∙◌}
use mathlib.Core.List.{[], ◌∷◌}
use Rattle.macros.specs.Macro.{among}
use Rattle.macros.specs.Write.{text_marks}
use Rattle.form_marks.proofs.ByteLaws.{same_set, among_append}
use Rattle.form_marks.proofs.is_text_mark.Goals as goal

pub returns : goal.returns
unfolding among text_marks
returns c = rw (c.is_low_text_mark.ensures, c.is_high_text_mark.ensures) (sym (same_set text_marks (9 ∷ 35 ∷ 38 ∷ 47 ∷ 58 ∷ 10 ∷ 39 ∷ 59 ∷ 92 ∷ 123 ∷ []) c.args.b refl refl ∙ among_append (9 ∷ 35 ∷ 38 ∷ 47 ∷ 58 ∷ 10 ∷ 39 ∷ 59 ∷ []) (92 ∷ 123 ∷ []) c.args.b))

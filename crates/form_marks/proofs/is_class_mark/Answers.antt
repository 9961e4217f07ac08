use mathlib.Core.Path.{refl, sym, ◌∙◌}
use mathlib.Core.List.{[], ◌∷◌}
use Rattle.macros.specs.Macro.{among}
use Rattle.macros.specs.Write.{class_marks}
use Rattle.form_marks.proofs.ByteLaws.{same_set, among_append}
use Rattle.form_marks.proofs.is_class_mark.Goals as goal

pub returns : goal.returns
unfolding among class_marks
returns c = rw (c.is_low_class_mark.ensures, c.is_high_class_mark.ensures) (sym (same_set class_marks (9 ∷ 39 ∷ 45 ∷ 59 ∷ 10 ∷ 92 ∷ 126 ∷ 93 ∷ []) c.args.b refl refl ∙ among_append (9 ∷ 39 ∷ 45 ∷ 59 ∷ 10 ∷ []) (92 ∷ 126 ∷ 93 ∷ []) c.args.b))

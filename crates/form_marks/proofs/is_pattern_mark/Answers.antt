use mathlib.Core.Path.{refl, sym, ◌∙◌}
use mathlib.Core.List.{[], ◌∷◌}
use Rattle.macros.specs.Macro.{among}
use Rattle.macros.specs.Write.{pattern_marks}
use Rattle.form_marks.proofs.ByteLaws.{same_set, among_append}
use Rattle.form_marks.proofs.is_pattern_mark.Goals as goal

pub returns : goal.returns
unfolding among pattern_marks
returns c = rw (c.is_low_mark.ensures, c.is_high_sign.ensures) (sym (same_set pattern_marks (9 ∷ 35 ∷ 38 ∷ 42 ∷ 45 ∷ 47 ∷ 59 ∷ 63 ∷ 10 ∷ 36 ∷ 39 ∷ 91 ∷ 94 ∷ 123 ∷ 125 ∷ 92 ∷ []) c.args.b refl refl ∙ among_append (9 ∷ 35 ∷ 38 ∷ 42 ∷ 45 ∷ 47 ∷ 59 ∷ 63 ∷ 10 ∷ 36 ∷ 39 ∷ []) (91 ∷ 94 ∷ 123 ∷ 125 ∷ 92 ∷ []) c.args.b))

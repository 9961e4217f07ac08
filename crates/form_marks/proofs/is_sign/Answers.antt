use mathlib.Core.Path.{refl, sym, ◌∙◌}
use mathlib.Core.List.{[], ◌∷◌}
use Rattle.macros.specs.Macro.{among}
use Rattle.macros.specs.Read.{signs}
use Rattle.form_marks.proofs.ByteLaws.{same_set, among_append}
use Rattle.form_marks.proofs.is_sign.Goals as goal

pub returns : goal.returns
unfolding among signs
returns c = rw (c.is_low_sign.ensures, c.is_high_sign.ensures) (sym (same_set (47 ∷ signs) (10 ∷ 36 ∷ 39 ∷ 42 ∷ 47 ∷ 59 ∷ 91 ∷ 94 ∷ 123 ∷ 125 ∷ 92 ∷ []) c.args.b refl refl ∙ among_append (10 ∷ 36 ∷ 39 ∷ 42 ∷ 47 ∷ 59 ∷ []) (91 ∷ 94 ∷ 123 ∷ 125 ∷ 92 ∷ []) c.args.b))

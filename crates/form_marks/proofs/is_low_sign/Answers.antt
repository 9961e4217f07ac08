use mathlib.Core.Path.{refl, sym}
use mathlib.Core.List.{[], ◌∷◌}
use Rattle.macros.specs.Macro.{among}
use Rattle.form_marks.proofs.ByteLaws.{one_of, none_key}
use Rattle.form_marks.proofs.is_low_sign.Goals as goal

pub returns-in-10 : goal.returns-in-10
unfolding among
returns-in-10 c = sym (one_of (among (10 ∷ 36 ∷ 39 ∷ 42 ∷ 47 ∷ 59 ∷ [])) (10 ∷ 36 ∷ 39 ∷ 42 ∷ 47 ∷ 59 ∷ []) c.args.b refl c.in-10.is)

pub returns-in_default : goal.returns-in_default
unfolding among
returns-in_default c = sym (none_key (10 ∷ 36 ∷ 39 ∷ 42 ∷ 47 ∷ 59 ∷ []) c.args.b c.in_default.in_default-own.rest.1)

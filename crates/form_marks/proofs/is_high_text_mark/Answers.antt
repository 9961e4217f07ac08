use mathlib.Core.Path.{refl, sym}
use mathlib.Core.List.{[], ◌∷◌}
use Rattle.macros.specs.Macro.{among}
use Rattle.form_marks.proofs.ByteLaws.{one_of, none_key}
use Rattle.form_marks.proofs.is_high_text_mark.Goals as goal

pub returns-in-92 : goal.returns-in-92
unfolding among
returns-in-92 c = sym (one_of (among (92 ∷ 123 ∷ [])) (92 ∷ 123 ∷ []) c.args.b refl c.in-92.is)

pub returns-in_default : goal.returns-in_default
unfolding among
returns-in_default c = sym (none_key (92 ∷ 123 ∷ []) c.args.b c.in_default.in_default-own.rest.1)

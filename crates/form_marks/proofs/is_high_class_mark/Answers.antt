use mathlib.Core.Path.{refl, sym, ◌∙◌}
use mathlib.Core.List.{[], ◌∷◌}
use Rattle.macros.specs.Macro.{among}
use Rattle.form_marks.proofs.ByteLaws.{one_of, none_key, or_false, among_append}
use Rattle.form_marks.proofs.is_high_class_mark.Goals as goal

pub returns-in-92 : goal.returns-in-92
unfolding among
returns-in-92 c = sym (one_of (among (92 ∷ 126 ∷ 93 ∷ [])) (92 ∷ 126 ∷ []) c.args.b refl c.in-92.is)

pub returns-in-93 : goal.returns-in-93
unfolding among
returns-in-93 c = rw c.in-93.is

pub returns-in_default : goal.returns-in_default
unfolding among
returns-in_default c = sym (among_append (92 ∷ 126 ∷ []) (93 ∷ []) c.args.b ∙ or_false _ _ (none_key (92 ∷ 126 ∷ []) c.args.b c.in_default.in_default-own.rest.0.1) (none_key (93 ∷ []) c.args.b c.in_default.in_default-own.rest.1))

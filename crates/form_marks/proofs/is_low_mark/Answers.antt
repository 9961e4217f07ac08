use mathlib.Core.Path.{refl, sym, ◌∙◌}
use mathlib.Core.List.{[], ◌∷◌}
use Rattle.macros.specs.Macro.{among}
use Rattle.form_marks.proofs.ByteLaws.{one_of, none_key, or_false, among_append}
use Rattle.form_marks.proofs.is_low_mark.Goals as goal

pub returns-in-9 : goal.returns-in-9
unfolding among
returns-in-9 c = sym (one_of (among (9 ∷ 35 ∷ 38 ∷ 42 ∷ 45 ∷ 47 ∷ 59 ∷ 63 ∷ 10 ∷ 36 ∷ 39 ∷ [])) (9 ∷ 35 ∷ 38 ∷ 42 ∷ 45 ∷ 47 ∷ 59 ∷ 63 ∷ []) c.args.b refl c.in-9.is)

pub returns-in-10 : goal.returns-in-10
unfolding among
returns-in-10 c = sym (one_of (among (9 ∷ 35 ∷ 38 ∷ 42 ∷ 45 ∷ 47 ∷ 59 ∷ 63 ∷ 10 ∷ 36 ∷ 39 ∷ [])) (10 ∷ 36 ∷ 39 ∷ []) c.args.b refl c.in-10.is)

pub returns-in_default : goal.returns-in_default
unfolding among
returns-in_default c = sym (among_append (9 ∷ 35 ∷ 38 ∷ 42 ∷ 45 ∷ 47 ∷ 59 ∷ 63 ∷ []) (10 ∷ 36 ∷ 39 ∷ []) c.args.b ∙ or_false _ _ (none_key (9 ∷ 35 ∷ 38 ∷ 42 ∷ 45 ∷ 47 ∷ 59 ∷ 63 ∷ []) c.args.b c.in_default.in_default-own.rest.0.1) (none_key (10 ∷ 36 ∷ 39 ∷ []) c.args.b c.in_default.in_default-own.rest.1))

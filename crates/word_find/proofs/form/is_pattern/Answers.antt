use mathlib.Core.Path.{sym, ◌∙◌}
use Rattle.std.proofs.lemmas.Grind.{common_steps}
use Rattle.word_find.proofs.Forming.{form_empty, form_dashes, form_rest}
use native.Mathlib.Omega.{arith}
use Rattle.word_find.proofs.form.is_pattern.Goals as goal

pub returns-then-is_empty : goal.returns-then-is_empty
returns-then-is_empty c = sym (form_empty c.args.pattern.now (grind (arith, common_steps)))

pub returns-then-two_dashes : goal.returns-then-two_dashes
returns-then-two_dashes c = sym (form_dashes c.args.pattern.now (grind (arith, common_steps)) (sym c.two_dashes.ensures ∙ c.if-two_dashes.true))

pub returns : goal.returns
returns c = c.all_allowed.ensures ∙ sym (form_rest c.args.pattern.now (grind (arith, common_steps)) (sym c.two_dashes.ensures ∙ c.if-two_dashes.false))

use mathlib.Core.Path.{◌∙◌, sym}
use Rattle.check_table.specs.PatternCode.{next_of}
use Rattle.check_table.proofs.PatternLaws.{sign_left, sign_full, sign_right, sign_shut, sign_start, sign_end, sign_not}
use Rattle.check_table.proofs.pattern.sign_step.Goals as goal

pub returns-then-t-lt99 : goal.returns-then-t-lt99
returns-then-t-lt99 c = c.behind_sign.ensures ∙ sym (sign_left _ _ _ _ _ c.in-1.is c.if-t-lt99.true)

pub returns-then-d-gt0 : goal.returns-then-d-gt0
returns-then-d-gt0 c = c.behind_sign-then-d-gt0.ensures ∙ sym (sign_right _ _ _ _ _ c.in-2.is c.if-d-gt0.true)

pub returns-else-t-lt99 : goal.returns-else-t-lt99
unfolding next_of
returns-else-t-lt99 c = sym (sign_full _ _ _ _ _ c.in-1.is c.if-t-lt99.false)

pub returns-else-d-gt0 : goal.returns-else-d-gt0
unfolding next_of
returns-else-d-gt0 c = sym (sign_shut _ _ _ _ _ c.in-2.is c.if-d-gt0.false)

pub returns-in-3 : goal.returns-in-3
returns-in-3 c = c.behind_sign-in-3.ensures ∙ sym (sign_start _ _ _ _ _ c.in-3.is)

pub returns-in-4 : goal.returns-in-4
returns-in-4 c = c.behind_sign-in-4.ensures ∙ sym (sign_end _ _ _ _ _ c.in-4.is)

pub returns-in_default : goal.returns-in_default
unfolding next_of
returns-in_default c = sym (sign_not _ _ _ _ _ c.in_default.in_default-own.rest.0.0.0.1 c.in_default.in_default-own.rest.0.0.1 c.in_default.in_default-own.rest.0.1 c.in_default.in_default-own.rest.1)

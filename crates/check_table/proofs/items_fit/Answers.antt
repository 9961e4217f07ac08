use mathlib.Core.Path.{refl, sym, ◌∙◌}
use Rattle.form_table.specs.Check.{items_fit, after_pattern, after_replacement, after_commands, after_calls}
use Rattle.form_table.specs.PatternWalk.{pattern_spelled}
use Rattle.form_table.specs.ActionWalk.{action_spelled}
use Rattle.check_table.specs.PatternCode.{state_of as state_of_pattern, next_of as next_of_pattern}
use Rattle.check_table.specs.ActionCode.{state_of as state_of_action, next_of as next_of_action}
use Rattle.check_table.proofs.WalkLaws.{pattern_fits, actions_fit}
use native.Mathlib.Omega.{arith}
use Rattle.check_table.proofs.items_fit.Goals as goal

pub returns-in_default : goal.returns-in_default
unfolding items_fit after_pattern after_replacement after_commands after_calls pattern_spelled action_spelled state_of_pattern next_of_pattern state_of_action next_of_action
returns-in_default c = rw (sym c.in_default.ensures)

pub returns-then-not-pattern_ends : goal.returns-then-not-pattern_ends
unfolding items_fit after_pattern after_replacement after_commands after_calls pattern_spelled action_spelled state_of_pattern next_of_pattern state_of_action next_of_action
returns-then-not-pattern_ends c = rw (sym c.in-Some.ensures, sym c.pattern_ends.ensures ∙ c.if-not-pattern_ends.true)

pub walk_actions-requires : goal.walk_actions-requires
walk_actions-requires c = (omega (arith, pattern_fits c.in-Some.p _ refl _ c.in-Some.ensures), omega (arith, c.requires))

pub returns-in_default-walk_actions : goal.returns-in_default-walk_actions
unfolding items_fit after_pattern after_replacement after_commands after_calls pattern_spelled action_spelled state_of_pattern next_of_pattern state_of_action next_of_action
returns-in_default-walk_actions c = rw (sym c.in-Some.ensures, sym c.pattern_ends.ensures ∙ c.if-not-pattern_ends.false, sym c.in_default-walk_actions.ensures)

pub returns-then-not-actions_end : goal.returns-then-not-actions_end
unfolding items_fit after_pattern after_replacement after_commands after_calls pattern_spelled action_spelled state_of_pattern next_of_pattern state_of_action next_of_action
returns-then-not-actions_end c = rw (sym c.in-Some.ensures, sym c.pattern_ends.ensures ∙ c.if-not-pattern_ends.false, sym c.in-Some-walk_actions.ensures, sym c.actions_end.ensures ∙ c.if-not-actions_end.true)

pub walk_actions-requires-2 : goal.walk_actions-requires-2
walk_actions-requires-2 c = (omega (arith, pattern_fits c.in-Some.p _ refl _ c.in-Some.ensures, actions_fit c.in-Some-walk_actions.r _ refl _ _ _ _ c.in-Some-walk_actions.ensures), omega (arith, c.requires))

pub returns-in_default-walk_actions-2 : goal.returns-in_default-walk_actions-2
unfolding items_fit after_pattern after_replacement after_commands after_calls pattern_spelled action_spelled state_of_pattern next_of_pattern state_of_action next_of_action
returns-in_default-walk_actions-2 c = rw (sym c.in-Some.ensures, sym c.pattern_ends.ensures ∙ c.if-not-pattern_ends.false, sym c.in-Some-walk_actions.ensures, sym c.actions_end.ensures ∙ c.if-not-actions_end.false, sym c.in_default-walk_actions-2.ensures)

pub returns-then-not-actions_end-2 : goal.returns-then-not-actions_end-2
unfolding items_fit after_pattern after_replacement after_commands after_calls pattern_spelled action_spelled state_of_pattern next_of_pattern state_of_action next_of_action
returns-then-not-actions_end-2 c = rw (sym c.in-Some.ensures, sym c.pattern_ends.ensures ∙ c.if-not-pattern_ends.false, sym c.in-Some-walk_actions.ensures, sym c.actions_end.ensures ∙ c.if-not-actions_end.false, sym c.in-Some-walk_actions-2.ensures, sym c.actions_end-2.ensures ∙ c.if-not-actions_end-2.true)

pub walk_actions-requires-3 : goal.walk_actions-requires-3
walk_actions-requires-3 c = (omega (arith, c.requires, pattern_fits c.in-Some.p _ refl _ c.in-Some.ensures, actions_fit c.in-Some-walk_actions.r _ refl _ _ _ _ c.in-Some-walk_actions.ensures, actions_fit c.in-Some-walk_actions-2.c _ refl _ _ _ _ c.in-Some-walk_actions-2.ensures), omega (arith, c.requires))

pub returns-in_default-walk_actions-3 : goal.returns-in_default-walk_actions-3
unfolding items_fit after_pattern after_replacement after_commands after_calls pattern_spelled action_spelled state_of_pattern next_of_pattern state_of_action next_of_action
returns-in_default-walk_actions-3 c = rw (sym c.in-Some.ensures, sym c.pattern_ends.ensures ∙ c.if-not-pattern_ends.false, sym c.in-Some-walk_actions.ensures, sym c.actions_end.ensures ∙ c.if-not-actions_end.false, sym c.in-Some-walk_actions-2.ensures, sym c.actions_end-2.ensures ∙ c.if-not-actions_end-2.false, sym c.in_default-walk_actions-3.ensures)

pub returns : goal.returns
unfolding items_fit after_pattern after_replacement after_commands after_calls pattern_spelled action_spelled state_of_pattern next_of_pattern state_of_action next_of_action
returns c = rw (sym c.in-Some.ensures, sym c.pattern_ends.ensures ∙ c.if-not-pattern_ends.false, sym c.in-Some-walk_actions.ensures, sym c.actions_end.ensures ∙ c.if-not-actions_end.false, sym c.in-Some-walk_actions-2.ensures, sym c.actions_end-2.ensures ∙ c.if-not-actions_end-2.false, sym c.in-Some-walk_actions-3.ensures, c.actions_end-3.ensures)

use mathlib.Core.Path.{◌∙◌}
use Rattle.check_table.specs.PatternCode.{next_of}
use Rattle.check_table.proofs.PatternLaws.{kind_law, stack_law, counter_law, class_law, complement_law, unit_not}
use Rattle.check_table.proofs.pattern.element_step.Goals as goal

pub returns-in-2 : goal.returns-in-2
returns-in-2 c = c.literal_step.ensures ∙ rw c.in-2.is

pub returns-in-3 : goal.returns-in-3
returns-in-3 c = c.unit_step.ensures ∙ kind_law _ _ _ _ _ _ _ _ _ c.in-3.is c.is_within.ensures

pub returns-in-4 : goal.returns-in-4
returns-in-4 c = c.unit_step-in-4.ensures ∙ stack_law _ _ _ _ _ _ _ _ _ c.in-4.is c.is_within-in-4.ensures

pub returns-in-5 : goal.returns-in-5
returns-in-5 c = c.unit_step-in-5.ensures ∙ counter_law _ _ _ _ _ _ _ _ _ c.in-5.is c.is_within-in-5.ensures

pub returns-in-6 : goal.returns-in-6
returns-in-6 c = c.class_step.ensures ∙ class_law _ _ _ _ _ _ _ _ c.in-6.is

pub returns-in-7 : goal.returns-in-7
returns-in-7 c = c.class_step-in-7.ensures ∙ complement_law _ _ _ _ _ _ _ _ c.in-7.is

pub returns-in_default : goal.returns-in_default
unfolding next_of
returns-in_default c = unit_not _ _ _ _ _ _ _ _ c.in_default.in_default-own.rest.0.0.0.0.0.1 c.in_default.in_default-own.rest.0.0.0.0.1 c.in_default.in_default-own.rest.0.0.0.1 c.in_default.in_default-own.rest.0.0.1 c.in_default.in_default-own.rest.0.1 c.in_default.in_default-own.rest.1

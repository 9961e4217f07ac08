use mathlib.Core.Path.{◌∙◌, sym}
use Rattle.check_table.specs.ActionCode.{next_of}
use Rattle.check_table.proofs.ActionLaws.{command_literal, command_tag, begin_literal, begin_tag, begin_call}
use Rattle.check_table.proofs.actions.begin_step.Goals as goal

pub returns-then-cmd : goal.returns-then-cmd
unfolding next_of
returns-then-cmd c = sym (command_literal _ _ _ _ _ _ c.in-40.is c.if-cmd.true)

pub returns-then-cmd-2 : goal.returns-then-cmd-2
unfolding next_of
returns-then-cmd-2 c = sym (command_tag _ _ _ _ _ _ c.in-41.is c.if-cmd-2.true)

pub returns-else-cmd : goal.returns-else-cmd
returns-else-cmd c = c.literal_step.ensures ∙ sym (begin_literal _ _ _ _ _ _ c.in-40.is c.if-cmd.false)

pub returns-else-cmd-2 : goal.returns-else-cmd-2
returns-else-cmd-2 c = c.tag_step.ensures ∙ sym (begin_tag _ _ _ _ _ _ c.in-41.is c.if-cmd-2.false)

pub returns-in_default : goal.returns-in_default
returns-in_default c = c.call_step.ensures ∙ sym (begin_call _ _ _ _ _ _ c.in_default.in_default-own.rest.0.1 c.in_default.in_default-own.rest.1)

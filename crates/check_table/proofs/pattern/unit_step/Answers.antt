use mathlib.Core.Path.{◌∙◌}
use Rattle.macros.specs.Macro.{pick}
use Rattle.check_table.specs.PatternCode.{joint_of, next_of}
use Rattle.check_table.proofs.pattern.unit_step.Goals as goal

pub returns-then-ok : goal.returns-then-ok
unfolding pick joint_of
returns-then-ok c = c.behind.ensures ∙ rw c.if-ok.true

pub returns : goal.returns
unfolding pick next_of
returns c = rw c.if-ok.false

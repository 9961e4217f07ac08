use mathlib.Core.Path.{sym, ◌∙◌}
use Rattle.check_table.specs.PatternCode.{joint_of, spot_of, state_of, next_of}
use Rattle.check_table.proofs.PatternLaws.{ended_not, ended_by, class_not, class_into}
use Rattle.check_table.proofs.pattern.class_step.Goals as goal

pub returns-then-o-gt0 : goal.returns-then-o-gt0
unfolding next_of
returns-then-o-gt0 c = sym (class_not _ _ _ _ _ _ _ c.if-o-gt0.true)

pub returns-then-k-gt2 : goal.returns-then-k-gt2
unfolding next_of
returns-then-k-gt2 c = sym (ended_not _ _ _ _ _ _ _ c.if-k-gt2.true) ∙ (class_into _ _ _ _ _ c.args.w _ c.requires.1 c.if-o-gt0.false)

pub returns : goal.returns
unfolding joint_of spot_of state_of next_of
returns c = rw c.closed.ensures (sym (ended_by _ _ _ _ _ _ _ c.if-k-gt2.false) ∙ (class_into _ _ _ _ _ c.args.w _ c.requires.1 c.if-o-gt0.false))

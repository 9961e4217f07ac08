use mathlib.Core.Path.{refl, ◌∙◌}
use Rattle.pass_one.proofs.MomentLaws.{steps_occurred}
use Rattle.pass_one.proofs.GoingLaws.{skipped, went_on, pass_done}
use Rattle.pass_one.proofs.walking.walk_on.Goals as goal

pub loop-at-preserved-then-differs : goal.loop-at-preserved-then-differs
loop-at-preserved-then-differs c = λ h y g. let u = c.loop-at.invariant h y g in (went_on _ _ _ _ h y _ _ _ _ _ _ u.0 c.loop-at-test.true _ _ _ _ _ _ ((skipped _ _ _ _ _ c.requires.came _ _ _ _ _ _ (c.loop-at.invariant _ c.requires.came c.requires.going).0 c.loop-at-test.true _ c.differs.ensures c.if-differs.true).copied _ _ c.step_over-at.ensures) refl c.step_over-at.auto.out refl refl refl, λ o. steps_occurred _ _ _ _ _ _ c.step_over-at.ensures (u.1 o))

pub loop-at-preserved : goal.loop-at-preserved
loop-at-preserved c = λ h y g. let u = c.loop-at.invariant h y g in (went_on _ _ _ _ h y _ _ _ _ _ _ u.0 c.loop-at-test.true _ _ _ _ _ _ (c.go_on-next.ensures.copied _ _ c.step_over-at-else-differs.ensures) c.go_on-next.auto.state (c.step_over-at-else-differs.auto.out ∙ c.go_on-next.auto.out) c.go_on-next.auto.marks c.go_on-next.auto.seen c.go_on-next.auto.ends, λ o. steps_occurred _ _ _ _ _ _ c.step_over-at-else-differs.ensures (c.go_on-next.ensures.stays (u.1 o)))

pub returns : goal.returns
returns c = record { comes = λ h y g o. let u = c.loop-at.invariant h y g in pass_done _ _ _ _ h y _ _ _ _ _ _ u.0 c.loop-at-test.false (u.1 o) _ c.answer.ensures }

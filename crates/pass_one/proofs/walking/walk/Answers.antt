use mathlib.Core.Path.{◌∙◌}
use Rattle.pass_one.proofs.MomentLaws.{steps_occurred}
use Rattle.pass_one.proofs.GoingLaws.{making, behind_first_lem}
use Rattle.pass_one.proofs.walking.walk.Goals as goal

pub replace-made-requires : goal.replace-made-requires
replace-made-requires c = (making _ _ _ _ (record { state = c.args.state.now; out = c.args.out.now; marks = c.args.marks.now; seen = c.args.seen.now; ends = c.args.ends.now; place = c.args.first; stop = c.args.end }) c.requires.0 c.requires.1 _ _ c.start-begun.ensures c.start-begun.auto.out, c.requires.1)

pub walk_on-requires : goal.walk_on-requires
walk_on-requires c = record { origin = (record { state = c.args.state.now; out = c.args.out.now; marks = c.args.marks.now; seen = c.args.seen.now; ends = c.args.ends.now; place = c.args.first; stop = c.args.end }); came = c.requires.0; going = (behind_first_lem _ _ _ _ (record { state = c.args.state.now; out = c.args.out.now; marks = c.args.marks.now; seen = c.args.seen.now; ends = c.args.ends.now; place = c.args.first; stop = c.args.end }) c.requires.0 c.requires.1 _ _ c.start-begun.ensures c.start-begun.auto.out _ _ _ _ _ _ _ c.replace-made.ensures.0 c.step_over-at.ensures c.replace-made.auto.state (c.step_over-at.auto.out ∙ c.replace-made.auto.out) c.replace-made.auto.marks c.replace-made.auto.seen) }

pub returns : goal.returns
returns c = c.walk_on.ensures.comes (record { state = c.args.state.now; out = c.args.out.now; marks = c.args.marks.now; seen = c.args.seen.now; ends = c.args.ends.now; place = c.args.first; stop = c.args.end }) c.requires.0 (behind_first_lem _ _ _ _ (record { state = c.args.state.now; out = c.args.out.now; marks = c.args.marks.now; seen = c.args.seen.now; ends = c.args.ends.now; place = c.args.first; stop = c.args.end }) c.requires.0 c.requires.1 _ _ c.start-begun.ensures c.start-begun.auto.out _ _ _ _ _ _ _ c.replace-made.ensures.0 c.step_over-at.ensures c.replace-made.auto.state (c.step_over-at.auto.out ∙ c.replace-made.auto.out) c.replace-made.auto.marks c.replace-made.auto.seen) (steps_occurred _ _ _ _ _ _ c.step_over-at.ensures c.replace-made.ensures.1)

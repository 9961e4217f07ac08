use Rattle.line_passes.proofs.Stepping.{in_table, pass_lent, to_follow, step_passed}
use Rattle.line_passes.proofs.passes.step.Goals as goal

pub slice_bounds-run_pass-end : goal.slice_bounds-run_pass-end
slice_bounds-run_pass-end c = in_table c.requires.0 c.requires.1

pub run_pass-passed-requires : goal.run_pass-passed-requires
run_pass-passed-requires c = pass_lent c.requires.0 c.requires.1

pub after_pass-requires : goal.after_pass-requires
after_pass-requires c = to_follow c.requires.0 c.requires.1 c.run_pass-passed.ensures c.run_pass-passed.auto.new

pub returns : goal.returns
returns c = step_passed c.requires.0 c.requires.1 c.run_pass-passed.result c.run_pass-passed.ensures c.run_pass-passed.auto.new c.after_pass.ensures c.after_pass.auto.text c.after_pass.auto.flags

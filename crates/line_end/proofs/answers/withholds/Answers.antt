use Rattle.line_end.proofs.Ending.{held_occurred, held_flag}
use Rattle.line_end.proofs.answers.withholds.Goals as goal

pub returns-then-occurred : goal.returns-then-occurred
returns-then-occurred c = held_occurred c.args.flag c.args.occurred c.if-occurred.true

pub returns : goal.returns
returns c = held_flag c.args.flag c.args.occurred c.if-occurred.false

use mathlib.Core.Path.{sym, ◌∙◌}
use native.Mathlib.Omega.{arith}
use Rattle.pass_lack.proofs.LackLaws.{flag_more, flag_end}
use Rattle.pass_lack.proofs.note.Goals as goal

pub loop-b-preserved : goal.loop-b-preserved
loop-b-preserved c = rw c.from.ensures (sym (flag_more c.args.line.now c.loop-b.present c.loop-b.b-index (omega arith)) ∙ c.loop-b.invariant)

pub returns : goal.returns
returns c = sym (flag_end c.args.line.now c.loop-b.present c.loop-b.b-index (omega arith)) ∙ c.loop-b.invariant

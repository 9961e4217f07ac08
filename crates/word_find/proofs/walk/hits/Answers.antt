use mathlib.Core.Path.{◌∙◌}
use Rattle.word_find.proofs.Walking.{hit_empty, hit_short, hit_so}
use native.Mathlib.Omega.{arith}
use Rattle.word_find.proofs.walk.hits.Goals as goal

pub returns-then-run-lt1 : goal.returns-then-run-lt1
returns-then-run-lt1 c = hit_empty c.args.pattern.now c.args.run.now c.if-run-lt1.true

pub returns-then-run-count : goal.returns-then-run-count
returns-then-run-count c = hit_short c.args.pattern.now c.args.run.now (omega arith) (omega (arith, c.if-run-count.true, c.requires.0))

pub returns : goal.returns
returns c = c.from.ensures ∙ hit_so c.args.pattern.now c.args.run.now (omega arith) c.is_covered.ensures

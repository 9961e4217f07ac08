use mathlib.Core.Path.{sym, ◌∙◌}
use Rattle.word_find.proofs.Walking.{run_ends, run_goes, run_over}
use native.Mathlib.Omega.{arith}
use Rattle.word_find.proofs.walk.word_end.Goals as goal

pub returns-then-not-is_kind : goal.returns-then-not-is_kind
returns-then-not-is_kind c = omega (arith, c.loop-e.invariant, run_ends c.args.line.now c.loop-e.e (omega arith) (sym c.is_kind.ensures ∙ c.if-not-is_kind.true))

pub loop-e-preserved : goal.loop-e-preserved
loop-e-preserved c = omega (arith, c.loop-e.invariant, run_goes c.args.line.now c.loop-e.e (omega arith) (sym c.is_kind.ensures ∙ c.if-not-is_kind.false))

pub returns : goal.returns
returns c = omega (arith, c.loop-e.invariant, run_over c.args.line.now c.loop-e.e (omega arith))

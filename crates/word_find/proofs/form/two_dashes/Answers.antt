use mathlib.Core.Path.{sym, ◌∙◌}
use Rattle.word_find.proofs.Forming.{dashes_here, dashes_next, dashes_none, both, not_first_dash, not_second_dash}
use native.Mathlib.Omega.{arith}
use Rattle.word_find.proofs.form.two_dashes.Goals.{else-pattern-i-eq-DASH-via-then-pattern-i-eq-DASH+else-pattern-i-eq-DASH-2, else-pattern-i-eq-DASH-via-else-pattern-i-eq-DASH}
use Rattle.word_find.proofs.form.two_dashes.Goals as goal

pub returns-then-pattern-i-eq-DASH-2 : goal.returns-then-pattern-i-eq-DASH-2
returns-then-pattern-i-eq-DASH-2 c = sym (c.loop-i.invariant ∙ dashes_here c.args.pattern.now c.loop-i.i (omega arith) (omega arith) (both c.if-pattern-i-eq-DASH.true c.if-pattern-i-eq-DASH-2.true))

pub loop-i-preserved : goal.loop-i-preserved
loop-i-preserved c =
    c.loop-i.invariant
    ∙ dashes_next c.args.pattern.now c.loop-i.i (omega arith) (omega arith)
    (elim c.else-pattern-i-eq-DASH.branch [
      | else-pattern-i-eq-DASH-via-then-pattern-i-eq-DASH+else-pattern-i-eq-DASH-2 w ↦ not_second_dash _ w.if-pattern-i-eq-DASH-2.false
      | else-pattern-i-eq-DASH-via-else-pattern-i-eq-DASH w ↦ not_first_dash _ w.if-pattern-i-eq-DASH.false
    ])

pub returns : goal.returns
returns c = sym (c.loop-i.invariant ∙ dashes_none c.args.pattern.now c.loop-i.i (omega arith))

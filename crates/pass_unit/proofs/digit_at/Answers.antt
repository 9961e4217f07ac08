use Rattle.pass_unit.proofs.TextLaws.{digit_past, digit_is, digit_not}
use Rattle.pass_unit.proofs.digit_at.Goals as goal
use Rattle.pass_unit.proofs.digit_at.Goals.{else-p-line-via-then-p-line+else-line-p, else-p-line-via-else-p-line}

pub returns-then-line-p : goal.returns-then-line-p
returns-then-line-p c = digit_is c.args.n c.args.line.now c.args.p c.if-p-line.true c.if-line-p.true

pub returns : goal.returns
returns c =
    elim c.else-p-line.branch [
      | else-p-line-via-then-p-line+else-line-p w ↦ digit_not c.args.n c.args.line.now c.args.p w.if-p-line.true w.if-line-p.false
      | else-p-line-via-else-p-line w ↦ digit_past c.args.n c.args.line.now c.args.p w.if-p-line.false
    ]

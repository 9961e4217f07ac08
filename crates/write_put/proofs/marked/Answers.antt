use native.Mathlib.Omega.{arith}
use Rattle.write_put.specs.Puts.{short_text}
use Rattle.write_put.proofs.Putting.{plain, escaped, feed, tab, itself}
use Rattle.write_put.proofs.marked.Goals as goal

pub returns-then-not-mark : goal.returns-then-not-mark
unfolding short_text
returns-then-not-mark c = plain _ _ c.if-not-mark.true

pub returns-in-10 : goal.returns-in-10
unfolding short_text
returns-in-10 c = escaped _ _ c.if-not-mark.false (feed c.in-10.is)

pub returns-in-9 : goal.returns-in-9
unfolding short_text
returns-in-9 c = escaped _ _ c.if-not-mark.false (tab c.in-9.is)

pub returns-in_default : goal.returns-in_default
unfolding short_text
returns-in_default c = escaped _ _ c.if-not-mark.false (itself (omega arith) (omega arith))

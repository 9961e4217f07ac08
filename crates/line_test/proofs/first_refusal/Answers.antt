use Rattle.line_test.proofs.Firsts.{large, long, bad, none}
use Rattle.line_test.proofs.first_refusal.Goals as goal

pub returns-then-budget-gt-MOST_BUDGET : goal.returns-then-budget-gt-MOST_BUDGET
returns-then-budget-gt-MOST_BUDGET c = large _ _ c.if-budget-gt-MOST_BUDGET.true

pub returns-then-line-gt-MOST_LINE_BYTES : goal.returns-then-line-gt-MOST_LINE_BYTES
returns-then-line-gt-MOST_LINE_BYTES c = long _ _ c.if-budget-gt-MOST_BUDGET.false c.if-line-gt-MOST_LINE_BYTES.true

pub returns-then-has_bad_byte : goal.returns-then-has_bad_byte
returns-then-has_bad_byte c = bad _ _ c.if-budget-gt-MOST_BUDGET.false c.if-line-gt-MOST_LINE_BYTES.false c.if-has_bad_byte.ensures

pub returns : goal.returns
returns c = none _ _ c.if-budget-gt-MOST_BUDGET.false c.if-line-gt-MOST_LINE_BYTES.false c.if-has_bad_byte.ensures

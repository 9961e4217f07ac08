use mathlib.Core.Path.{sym, ◌∙◌}
use native.Mathlib.Omega.{arith}
use Rattle.read_scan.proofs.Laws.{handed_on}
use Rattle.read_element.proofs.Elements.{query_fault, query_kind, query_itself, kind_least}
use Rattle.read_element.proofs.element.query.Goals as goal

pub returns-in_err-k : goal.returns-in_err-k
returns-in_err-k c = rw (handed_on c.from_residual.ensures) (query_fault c.args.end c.in_err-k.ensures)

pub overflow_sub-k : goal.overflow_sub-k
overflow_sub-k c = omega (arith, kind_least (sym c.kind_digit.ensures ∙ c.if-kind_digit.true))

pub returns-then-kind_digit : goal.returns-then-kind_digit
returns-then-kind_digit c = query_kind c.args.end c.in_ok-k.ensures (sym c.kind_digit.ensures ∙ c.if-kind_digit.true) c.with_closure.ensures

pub returns : goal.returns
returns c = query_itself c.args.end c.in_ok-k.ensures (sym c.kind_digit.ensures ∙ c.if-kind_digit.false) c.with_closure-2.ensures

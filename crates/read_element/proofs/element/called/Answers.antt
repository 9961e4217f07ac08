use mathlib.Core.Path.{sym, ◌∙◌}
use Rattle.read_scan.proofs.Laws.{handed_on}
use Rattle.read_element.proofs.Elements.{letter_fault, letter_wrong, called_fault, end_wrong, called_made}
use Rattle.read_element.proofs.element.called.Goals as goal

pub returns-in_err-i : goal.returns-in_err-i
returns-in_err-i c = rw (handed_on c.from_residual.ensures) (letter_fault c.args.sign c.args.end c.in_err-i.ensures)

pub returns-then-not-is_lower : goal.returns-then-not-is_lower
returns-then-not-is_lower c = rw c.at.ensures (letter_wrong c.args.sign c.args.end c.in_ok-i.ensures (sym c.is_lower.ensures ∙ c.if-not-is_lower.true) c.wrong_byte.ensures)

pub returns-in_err-b : goal.returns-in_err-b
returns-in_err-b c = rw (handed_on c.from_residual-in_err-b.ensures) (called_fault c.args.sign c.args.end c.in_ok-i.ensures (sym c.is_lower.ensures ∙ c.if-not-is_lower.false) c.in_err-b.ensures)

pub returns-then-b-ne41 : goal.returns-then-b-ne41
returns-then-b-ne41 c = rw c.at-then-b-ne41.ensures (end_wrong c.args.sign c.args.end c.in_ok-i.ensures (sym c.is_lower.ensures ∙ c.if-not-is_lower.false) c.in_ok-b.ensures c.if-b-ne41.true c.wrong_byte-then-b-ne41.ensures)

pub returns : goal.returns
returns c = called_made c.args.sign c.args.end c.in_ok-i.ensures (sym c.is_lower.ensures ∙ c.if-not-is_lower.false) c.in_ok-b.ensures _ c.if-b-ne41.false c.call_unit.ensures c.with_closure.ensures

use mathlib.Core.Path.{sym, ◌∙◌}
use Rattle.read_scan.proofs.Laws.{handed_on}
use Rattle.read_class.proofs.Classes.{meets_break, meets_raw, meets_escape_fault, meets_escaped}
use Rattle.read_class.proofs.class.class_byte.Goals as goal

pub returns-then-is_break : goal.returns-then-is_break
returns-then-is_break c = rw c.at.ensures (meets_break c.in_ok-b.ensures (sym c.is_break.ensures ∙ c.if-is_break.true))

pub returns-then-b-ne92 : goal.returns-then-b-ne92
returns-then-b-ne92 c = meets_raw c.in_ok-b.ensures (sym c.is_break.ensures ∙ c.if-is_break.false) c.if-b-ne92.true

pub returns-in_err-e : goal.returns-in_err-e
returns-in_err-e c = rw (handed_on c.from_residual-in_err-e.ensures) (meets_escape_fault c.in_ok-b.ensures c.if-b-ne92.false c.in_err-e.ensures)

pub returns : goal.returns
returns c = meets_escaped c.in_ok-b.ensures c.if-b-ne92.false c.in_ok-e.ensures c.escaped_byte.ensures

use mathlib.Core.Path.{sym, ◌∙◌}
use borrow.Author.Tests.{le-ltb}
use Rattle.pass_unit.proofs.TextLaws.{byte_here_lem, byte_past}
use Rattle.pass_unit.proofs.one_at.Goals as goal

pub returns-then-p-line : goal.returns-then-p-line
returns-then-p-line c = λ e es r. c.is_copy.ensures e es r ∙ sym (byte_here_lem _ _ _ c.if-p-line.true)

pub returns-else-p-line : goal.returns-else-p-line
returns-else-p-line c = λ e es r. le-ltb _ _ c.if-p-line.false ∙ sym (byte_past _ _ _ c.if-p-line.false)

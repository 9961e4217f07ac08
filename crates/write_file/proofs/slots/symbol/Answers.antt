use borrow.Author.Tests.{eq-eqb, ne_eqb}
use Rattle.macros.specs.Macro.{pick}
use Rattle.write_file.specs.Slots.{symbol_byte}
use Rattle.write_file.proofs.slots.symbol.Goals as goal

pub returns-then-code-eq1 : goal.returns-then-code-eq1
unfolding symbol_byte pick
returns-then-code-eq1 c = simp (eq-eqb _ _ c.if-code-eq1.true)

pub returns : goal.returns
unfolding symbol_byte pick
returns c = simp (ne_eqb _ _ c.if-code-eq1.false)

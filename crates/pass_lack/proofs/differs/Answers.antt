use mathlib.Core.Path.{◌∙◌}
use native.Mathlib.Omega.{arith}
use borrow.Author.Tests.{le-leb}
use Rattle.pass_lack.proofs.DifferLaws.{differs_short, differs_start, differs_low, differs_high, differs_past, differs_byte}
use Rattle.pass_lack.proofs.differs.Goals as goal

pub returns-in-3 : goal.returns-in-3
returns-in-3 c = let a = c.args in differs_start a.items.now a.line.now a.p (omega arith) (omega arith)

pub returns-then-line-p : goal.returns-then-line-p
returns-then-line-p c = let a = c.args in le-leb _ _ c.if-line-p.true ∙ differs_past a.items.now a.line.now a.p (omega arith) (λ e. omega arith) (omega arith) (omega arith) c.if-line-p.true

pub returns-else-line-p : goal.returns-else-line-p
returns-else-line-p c = let a = c.args in differs_byte a.items.now a.line.now a.p (omega arith) (λ e. omega arith) (omega arith) (omega arith) c.if-line-p.false

pub returns-in_default : goal.returns-in_default
returns-in_default c = let a = c.args in differs_short a.items.now a.line.now a.p (omega arith)

pub returns-in_default-2 : goal.returns-in_default-2
returns-in_default-2 c = let a = c.args in differs_low a.items.now a.line.now a.p (omega arith) (λ e. omega arith) (omega arith)

pub returns-in_default-3 : goal.returns-in_default-3
returns-in_default-3 c = let a = c.args in differs_high a.items.now a.line.now a.p (omega arith) (λ e. omega arith) (omega arith) (omega arith)

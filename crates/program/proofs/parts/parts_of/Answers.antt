use native.Mathlib.Omega.{arith}
use Rattle.program.proofs.Lines.{parts_table, parts_refused}
use Rattle.program.proofs.parts.parts_of.Goals as goal

pub returns-then-number-lt1 : goal.returns-then-number-lt1
returns-then-number-lt1 c = parts_table _ (omega arith)

pub returns : goal.returns
returns c = parts_refused _ (omega arith)

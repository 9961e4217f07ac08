use native.Mathlib.Omega.{arith}
use Rattle.pass_call.proofs.Moving.{move_some, move_none}
use Rattle.pass_call.proofs.move_of.Goals as goal

pub returns-in-48-to-79 : goal.returns-in-48-to-79
returns-in-48-to-79 c = (move_some c.args.code (omega arith) (omega arith), λ h. omega arith)

pub returns-in_default : goal.returns-in_default
returns-in_default c = (move_none c.args.code (λ l h. omega arith), λ h. absurd (omega arith))

pub returns-in_default-2 : goal.returns-in_default-2
returns-in_default-2 c = (move_none c.args.code (λ l h. omega arith), λ h. absurd (omega arith))

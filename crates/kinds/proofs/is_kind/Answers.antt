use mathlib.Core.Path.{sym}
use native.Mathlib.Omega.{arith}
use Rattle.kinds.proofs.Rule.{inside, outside}
use Rattle.kinds.proofs.is_kind.Goals as goal

pub returns-then-n-lt1 : goal.returns-then-n-lt1
returns-then-n-lt1 c = sym (outside c.args.n _ (λ k p q e. omega arith))

pub returns-then-n-gt6 : goal.returns-then-n-gt6
returns-then-n-gt6 c = sym (outside c.args.n _ (λ k p q e. omega arith))

pub returns : goal.returns
returns c =
    let a = c.args in
    inside a.kinds.now a.byte a.n c.requires (omega arith) (omega arith) (omega arith)

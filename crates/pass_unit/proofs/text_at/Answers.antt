use mathlib.Core.Path.{◌≡◌, ap, ◌∙◌}
use Prim.Native.Nat.{ℕ, ◌+◌, ◌-◌}
use native.Mathlib.Omega.{arith}
use borrow.Author.Tests.{lt-leb}
use lib.Dec.{eqb}
use lib.ListN.{length, take, drop, length-drop}
use lib.Pointwise.{pointwise}
use Rattle.pass_unit.proofs.TextLaws.{prefix_is, begins_short}
use Rattle.pass_unit.proofs.text_at.Goals as goal

pub returns-then-end-line : goal.returns-then-end-line
returns-then-end-line c =
    c.eq.ensures
    ∙ ap (λ (n : ℕ). pointwise eqb c.args.text.now (take n (drop c.args.p c.args.line.now)))
    (let z : c.args.p + length c.args.text.now - c.args.p ≡ length c.args.text.now = omega arith in z)
    ∙ prefix_is c.args.text.now (drop c.args.p c.args.line.now)

pub returns-else-end-line : goal.returns-else-end-line
returns-else-end-line c =
    let k = length-drop c.args.p c.args.line.now in
    lt-leb _ _ c.if-end-line.false ∙ begins_short c.args.text.now (drop c.args.p c.args.line.now) (omega arith)

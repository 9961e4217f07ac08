use mathlib.Core.Path.{refl, ◌∙◌}
use native.Mathlib.Omega.{arith}
use Rattle.read_scan.proofs.Laws.{handed_on}
use Rattle.read_action.proofs.Replacing.{acts_none, acts_fault, acts_quote, acts_fault_2, acts_on}
use Rattle.read_action.proofs.actions.replacement_items.Goals as goal

pub loop-b-init : goal.loop-b-init
loop-b-init c = (omega arith, refl, acts_none _ _ _ c.requires.0)

pub returns-in_err-b : goal.returns-in_err-b
returns-in_err-b c =
    let i = c.loop-b.invariant in
    rw (handed_on c.from_residual.ensures) (acts_fault _ _ _ _ _ _ _ i.2 i.0 c.in_err-b.ensures)

pub returns-then-b-eq39 : goal.returns-then-b-eq39
returns-then-b-eq39 c = let i = c.loop-b.invariant in acts_quote _ _ _ _ _ _ _ i.2 i.0 c.in_ok-b.ensures c.if-b-eq39.true

pub returns-in_err-at : goal.returns-in_err-at
returns-in_err-at c =
    let i = c.loop-b.invariant in
    rw (handed_on c.from_residual-in_err-at.ensures) (acts_fault_2 _ _ _ _ _ _ _ i.2 i.0 c.in_ok-b.ensures c.action.new.out _ c.in_err-at.ensures)

pub loop-b-preserved : goal.loop-b-preserved
loop-b-preserved c =
    let i = c.loop-b.invariant in
    let y = c.in_ok-b.ensures in
    let x = c.in_ok-at.ensures in
    (omega (arith, i.0, y.found.0, x.0), c.action.auto.out ∙ i.1, acts_on _ _ _ _ _ _ _ i.2 i.0 y x)

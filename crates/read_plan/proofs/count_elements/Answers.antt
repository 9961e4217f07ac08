use Rattle.std.proofs.Common.{arith, length, length-append, ap, ◌∙◌, ◌≡◌}
use Rattle.std.specs.Slice.Iter.{chunks_exact_rest}
use Rattle.read_plan.specs.Elements.{element_items}
use Rattle.read_plan.proofs.Items.{items_short, item_counted, item_passed}
use Rattle.read_plan.proofs.count_elements.Goals as goal

pub loop-item-preserved-then-begins_element : goal.loop-item-preserved-then-begins_element
loop-item-preserved-then-begins_element c =
    let inv = c.loop-item.invariant in
    let st = c.in-Some.ensures.steps in
    let l = simp length-append at (ap length st.1.0) in
    let e = item_counted _ _ c.in-Some.item.now (st.1.1 ∙ inv.2) st.1.0 c.if-begins_element.ensures in
    (omega (arith, st.0), tt, st.0 ∙ inv.2, omega (arith, l, st.1.1), omega (arith, e))

pub loop-item-preserved : goal.loop-item-preserved
loop-item-preserved c =
    let inv = c.loop-item.invariant in
    let st = c.in-Some.ensures.steps in
    let l = simp length-append at (ap length st.1.0) in
    let e = item_passed _ _ c.in-Some.item.now (st.1.1 ∙ inv.2) st.1.0 c.if-begins_element.ensures in
    (omega (arith, st.0), tt, st.0 ∙ inv.2, omega (arith, l), omega (arith, e))

pub returns : goal.returns
returns c =
    let inv = c.loop-item.invariant in
    let z : element_items (chunks_exact_rest c.loop-item.item-iterator) ≡ 0 = items_short _ (omega (arith, c.in-None.ensures.steps.1.0)) in
    omega arith

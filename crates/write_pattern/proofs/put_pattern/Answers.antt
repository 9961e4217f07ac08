use Rattle.std.proofs.Common.{arith, ◌∙◌}
use Rattle.write_put.specs.Puts.{short_text}
use Rattle.write_put.proofs.Putting.{also, by_bytes, rest_next, rest_done}
use Rattle.write_pattern.specs.Items.{item_text}
use Rattle.write_pattern.proofs.Steps.{pattern_more, pattern_end_lem}
use Rattle.write_pattern.proofs.put_pattern.Goals as goal

pub loop-item-preserved : goal.loop-item-preserved
unfolding item_text
loop-item-preserved c =
    let inv = c.loop-item.invariant in
    let st = c.in-Some.ensures.steps in
    let step = pattern_more _ c.in-Some.item.now _ c.loop-item.held (st.1.1 ∙ inv.2) st.1.0 c.element_code-held.ensures in
    let one = also (by_bytes c.head.ensures c.put-m.ensures) (by_bytes c.tail.ensures c.put-n-in-loop-item.ensures) in
    (omega (arith, st.0), tt, st.0 ∙ inv.2, omega arith, rest_next inv.4 step one)

pub returns : goal.returns
unfolding short_text
returns c = also c.put-n.ensures (rest_done c.loop-item.invariant.4 (pattern_end_lem _ c.loop-item.held (omega (arith, c.in-None.ensures.steps.1.0, c.loop-item.invariant.2))))

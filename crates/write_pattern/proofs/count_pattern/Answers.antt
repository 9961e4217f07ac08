use Rattle.std.proofs.Common.{arith, get_or, ◌∙◌}
use Rattle.write_put.proofs.Putting.{counted, count_as, count_also, counts_next, counts_done}
use Rattle.write_pattern.specs.Items.{head_text, item_text}
use Rattle.write_pattern.proofs.Steps.{pattern_more, pattern_end_lem}
use Rattle.write_pattern.proofs.count_pattern.Goals as goal

pub end_of-m-requires : goal.end_of-m-requires
end_of-m-requires c = (omega arith, omega (arith, c.head_size.ensures.1))

pub loop-item-preserved : goal.loop-item-preserved
unfolding item_text
loop-item-preserved c =
    let inv = c.loop-item.invariant in
    let st = c.in-Some.ensures.steps in
    let item = c.in-Some.item.now in
    let step = pattern_more _ item _ c.loop-item.held (st.1.1 ∙ inv.2) st.1.0 c.element_code-held.ensures in
    let one = count_also (counted (head_text (get_or item 0 0) (get_or item 1 0)) c.head_size.ensures.0 c.end_of-m.ensures) (count_as c.tail.ensures c.count-n.ensures) in
    (omega (arith, st.0), tt, st.0 ∙ inv.2, counts_next inv.3 step one)

pub returns : goal.returns
returns c = counts_done c.loop-item.invariant.3 (pattern_end_lem _ c.loop-item.held (omega (arith, c.in-None.ensures.steps.1.0, c.loop-item.invariant.2)))

use native.Mathlib.Omega.{arith}
use Rattle.pass_replace.proofs.Occurring.{slot_size, parts_fit_lem, is_divided, are_fit, occurs}
use Rattle.pass_replace.proofs.occurrence.Goals as goal

pub two_at-pattern-requires : goal.two_at-pattern-requires
two_at-pattern-requires c = omega (arith, slot_size c.requires)

pub two_at-requires : goal.two_at-requires
two_at-requires c = omega (arith, slot_size c.requires)

pub two_at-requires-2 : goal.two_at-requires-2
two_at-requires-2 c = omega (arith, slot_size c.requires)

pub two_at-requires-3 : goal.two_at-requires-3
two_at-requires-3 c = omega (arith, slot_size c.requires)

pub slice_bounds-act-end : goal.slice_bounds-act-end
slice_bounds-act-end c =
    let pre = c.requires in
    omega (arith, parts_fit_lem pre, slot_size pre, c.two_at-pattern.ensures.0, c.two_at.ensures.0)

pub slice_bounds-act-end-2 : goal.slice_bounds-act-end-2
slice_bounds-act-end-2 c =
    let pre = c.requires in
    omega (arith, parts_fit_lem pre, slot_size pre, c.two_at-pattern.ensures.0, c.two_at.ensures.0, c.two_at-2.ensures.0, c.two_at-3.ensures.0)

pub act-requires : goal.act-requires
act-requires c =
    let pre = c.requires in
    let p = c.two_at-pattern.ensures.0 in
    let q = c.two_at.ensures.0 in
    (is_divided pre p q, are_fit pre p q c.two_at-2.ensures.0 c.two_at-3.ensures.0, pre.state, record { room = pre.room; fits = pre.sized })

pub returns : goal.returns
returns c =
    occurs c.requires c.two_at-pattern.ensures.0 c.two_at.ensures.0 c.two_at-2.ensures.0 c.two_at-3.ensures.0 c.act.ensures

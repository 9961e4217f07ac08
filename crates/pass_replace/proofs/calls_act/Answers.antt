use Prim.Native.Nat.{ℕ}
use native.Mathlib.Omega.{arith}
use lib.ListN.{length-replicate}
use Rattle.pass_replace.proofs.Preparing.{none_divided, slot_size, calls_short, calls_fit, prepares, prepares_none}
use Rattle.pass_replace.proofs.calls_act.Goals as goal

pub two_at-n-requires : goal.two_at-n-requires
two_at-n-requires c = omega (arith, slot_size c.requires)

pub returns-then-n-eq0 : goal.returns-then-n-eq0
returns-then-n-eq0 c = prepares_none c.two_at-n.ensures.0 c.if-n-eq0.true

pub slice_bounds-act-end-4 : goal.slice_bounds-act-end-4
slice_bounds-act-end-4 c = let pre = c.requires in omega (arith, calls_short pre, slot_size pre, c.two_at-n.ensures.0)

pub act-requires : goal.act-requires
act-requires c =
    let pre = c.requires in
    (none_divided, calls_fit pre c.two_at-n.ensures.0, pre.state, record { room = length-replicate {A = ℕ} 1054 0; fits = omega arith })

pub returns : goal.returns
returns c = prepares c.two_at-n.ensures.0 c.act.ensures

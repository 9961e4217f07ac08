use Prim.Native.Nat.{ℕ}
use mathlib.Core.Path.{sym, ◌∙◌}
use native.Mathlib.Omega.{arith}
use lib.ListN.{length-replicate}
use lib.Seq.{length-take-le}
use Rattle.line_feed.proofs.Replying.{state_long, started, obeying, replying, takes}
use Rattle.line_feed.proofs.taking.take_with.Goals as goal

pub slice_bounds-lay_out-end-2 : goal.slice_bounds-lay_out-end-2
slice_bounds-lay_out-end-2 c = state_long _ c.requires.0.own

pub slice_bounds-lay_out-end-3 : goal.slice_bounds-lay_out-end-3
slice_bounds-lay_out-end-3 c = sym (length-take-le {A = ℕ} 52236 c.args.state.now (state_long _ c.requires.0.own))

pub lay_out-requires : goal.lay_out-requires
lay_out-requires c = omega (arith, length-take-le {A = ℕ} 52236 c.args.state.now (state_long _ c.requires.0.own), length-replicate {A = ℕ} 52236 0)

pub run_line-ended-requires : goal.run_line-ended-requires
run_line-ended-requires c = started c.requires.0.own c.lay_out.ensures _ c.requires.1 c.requires.2 c.count_macros-count.ensures

pub obey-order-requires : goal.obey-order-requires
obey-order-requires c = obeying c.requires.0.own c.lay_out.ensures _ c.requires.1 c.requires.2 c.count_macros-count.ensures c.run_line-ended.result c.run_line-ended.ensures c.run_line-ended.auto.state (c.run_line-ended.auto.text ∙ length-replicate {A = ℕ} 1054 0)

pub reply-requires : goal.reply-requires
reply-requires c = replying c.requires.0.own c.lay_out.ensures _ c.requires.1 c.requires.2 c.count_macros-count.ensures c.run_line-ended.result c.run_line-ended.ensures c.run_line-ended.auto.state (c.run_line-ended.auto.text ∙ length-replicate {A = ℕ} 1054 0) c.obey-order.auto.state c.run_line-ended.auto.trace c.requires.0.room

pub returns : goal.returns
returns c = takes c.requires.0.own c.lay_out.ensures _ c.requires.1 c.requires.2 c.count_macros-count.ensures c.run_line-ended.result c.run_line-ended.ensures c.run_line-ended.auto.state (c.run_line-ended.auto.text ∙ length-replicate {A = ℕ} 1054 0) c.obey-order.ensures c.reply.ensures c.requires.0.room c.run_line-ended.auto.trace

use Prim.Native.Nat.{ℕ}
use mathlib.Core.Path.{sym, ap, ◌∙◌}
use native.Mathlib.Omega.{arith}
use lib.ListN.{length-replicate}
use Rattle.form_state.specs.Check.{state_checks}
use Rattle.line_answer.proofs.Laws.{no_place}
use Rattle.m7.proofs.Results.{octets_given}
use Rattle.m7.proofs.WidthResults.{wide_copied, other_old, other_new, widen_other, widen_none, widen_made}
use Rattle.m7.proofs.widen.m7_widen.Goals as goal

pub refusal-requires : goal.refusal-requires
refusal-requires c = no_place

pub returns-then-old-ne-OLD_STATE_BYTES : goal.returns-then-old-ne-OLD_STATE_BYTES
returns-then-old-ne-OLD_STATE_BYTES c =
    let a = c.args in
    widen_other a.old.now a.state.now (other_old _ _ c.if-old-ne-OLD_STATE_BYTES.true) c.refusal.ensures

pub refusal-requires-then-state-ne-STATE_BYTES : goal.refusal-requires-then-state-ne-STATE_BYTES
refusal-requires-then-state-ne-STATE_BYTES c = no_place

pub returns-then-state-ne-STATE_BYTES : goal.returns-then-state-ne-STATE_BYTES
returns-then-state-ne-STATE_BYTES c =
    let a = c.args in
    widen_other a.old.now a.state.now (other_new _ _ c.if-old-ne-OLD_STATE_BYTES.false c.if-state-ne-STATE_BYTES.true) c.refusal-then-state-ne-STATE_BYTES.ensures

pub widen-requires : goal.widen-requires
widen-requires c = (c.if-old-ne-OLD_STATE_BYTES.false, length-replicate {A = ℕ} 52236 0)

pub refusal-requires-then-not-is_state : goal.refusal-requires-then-not-is_state
refusal-requires-then-not-is_state c = no_place

pub returns-then-not-is_state : goal.returns-then-not-is_state
returns-then-not-is_state c =
    let a = c.args in
    let o = octets_given a.old.now c.shared_slice_known-1.given in
    let z = ap state_checks (sym c.widen.ensures) ∙ sym c.is_state.ensures ∙ c.if-not-is_state.true in
    widen_none a.old.now a.state.now c.if-old-ne-OLD_STATE_BYTES.false c.if-state-ne-STATE_BYTES.false o z c.refusal-then-not-is_state.ensures

pub lay_out-requires : goal.lay_out-requires
lay_out-requires c = let l = c.widen.auto.state ∙ length-replicate {A = ℕ} 52236 0 in omega (arith, l, c.if-state-ne-STATE_BYTES.false)

pub shape_of-state : goal.shape_of-state
shape_of-state c = c.lay_out.auto.to

pub returns : goal.returns
returns c =
    let a = c.args in
    let o = octets_given a.old.now c.shared_slice_known-1.given in
    let l = c.widen.auto.state ∙ length-replicate {A = ℕ} 52236 0 in
    let z = ap state_checks (sym c.widen.ensures) ∙ sym c.is_state.ensures ∙ c.if-not-is_state.false in
    widen_made a.old.now a.state.now c.if-old-ne-OLD_STATE_BYTES.false c.if-state-ne-STATE_BYTES.false o z (wide_copied c.widen.new.state a.state.now l c.if-state-ne-STATE_BYTES.false c.lay_out.ensures ∙ c.widen.ensures) c.taken.ensures

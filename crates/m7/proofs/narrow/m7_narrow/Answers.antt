use mathlib.Core.Path.{sym, ◌∙◌}
use Rattle.line_answer.proofs.Laws.{no_place}
use Rattle.m7.proofs.Results.{octets_given}
use Rattle.m7.proofs.WidthResults.{other_old, new_other, narrow_other, narrow_none, narrow_long, narrow_made}
use Rattle.m7.proofs.narrow.m7_narrow.Goals as goal

pub refusal-requires : goal.refusal-requires
refusal-requires c = no_place

pub returns-then-state-ne-STATE_BYTES : goal.returns-then-state-ne-STATE_BYTES
returns-then-state-ne-STATE_BYTES c =
    let a = c.args in
    narrow_other a.old.now a.state.now (new_other _ _ c.if-state-ne-STATE_BYTES.true) c.refusal.ensures

pub refusal-requires-then-old-ne-OLD_STATE_BYTES : goal.refusal-requires-then-old-ne-OLD_STATE_BYTES
refusal-requires-then-old-ne-OLD_STATE_BYTES c = no_place

pub returns-then-old-ne-OLD_STATE_BYTES : goal.returns-then-old-ne-OLD_STATE_BYTES
returns-then-old-ne-OLD_STATE_BYTES c =
    let a = c.args in
    narrow_other a.old.now a.state.now (other_old _ _ c.if-old-ne-OLD_STATE_BYTES.true) c.refusal-then-old-ne-OLD_STATE_BYTES.ensures

pub is_short-short-requires : goal.is_short-short-requires
is_short-short-requires c = c.if-state-ne-STATE_BYTES.false

pub refusal-requires-then-not-sound : goal.refusal-requires-then-not-sound
refusal-requires-then-not-sound c = no_place

pub returns-then-not-sound : goal.returns-then-not-sound
returns-then-not-sound c =
    let a = c.args in
    let o = octets_given a.state.now c.shared_slice_known-1.given in
    narrow_none a.old.now a.state.now c.if-old-ne-OLD_STATE_BYTES.false c.if-state-ne-STATE_BYTES.false o (sym c.is_state-sound.ensures ∙ c.if-not-sound.true) c.refusal-then-not-sound.ensures

pub refusal-requires-then-not-short : goal.refusal-requires-then-not-short
refusal-requires-then-not-short c = no_place

pub returns-then-not-short : goal.returns-then-not-short
returns-then-not-short c =
    let a = c.args in
    let o = octets_given a.state.now c.shared_slice_known-1.given in
    let z = sym c.is_state-sound.ensures ∙ c.if-not-sound.false in
    narrow_long a.old.now a.state.now c.if-old-ne-OLD_STATE_BYTES.false c.if-state-ne-STATE_BYTES.false o z (sym c.is_short-short.ensures ∙ c.if-not-short.true) c.refusal-then-not-short.ensures

pub narrow-requires : goal.narrow-requires
narrow-requires c = (c.if-state-ne-STATE_BYTES.false, c.if-old-ne-OLD_STATE_BYTES.false)

pub shape_of-old : goal.shape_of-old
shape_of-old c = c.narrow.auto.old

pub returns : goal.returns
returns c =
    let a = c.args in
    let o = octets_given a.state.now c.shared_slice_known-1.given in
    let z = sym c.is_state-sound.ensures ∙ c.if-not-sound.false in
    let s = sym c.is_short-short.ensures ∙ c.if-not-short.false in
    narrow_made a.old.now a.state.now c.if-old-ne-OLD_STATE_BYTES.false c.if-state-ne-STATE_BYTES.false o z s c.narrow.ensures c.taken.ensures

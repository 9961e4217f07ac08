use native.Mathlib.Omega.{arith}
use Rattle.form_state.proofs.Held.{is_long_lem, entry_set}
use Rattle.pass_call.proofs.Entries.{entry_laid}
use Rattle.pass_call.proofs.setting.set_entry.Goals as goal

pub copy-requires : goal.copy-requires
copy-requires c = omega (arith, is_long_lem c.args.state.now c.requires.0, c.entry_at-at.ensures.0, c.requires.3)

pub slice_bounds-fill-end : goal.slice_bounds-fill-end
slice_bounds-fill-end c = omega (arith, is_long_lem c.args.state.now c.requires.0, c.entry_at-at.ensures.0, c.requires.3, c.copy.auto.out)

pub returns : goal.returns
returns c = λ w h.
    let at = c.entry_at-at in
    let b = c.args.state.now in
    entry_set b _ c.args.i w h c.requires.1 c.args.text.now at.result (c.requires.2, c.requires.3) (at.ensures.1 w.state h)
    (entry_laid b c.copy.new.out c.args.text.now _ at.result _ (omega (arith, is_long_lem b c.requires.0, at.ensures.0)) c.requires.3 c.copy.ensures (c.fill.ensures.after (λ y e. e)) (omega arith))

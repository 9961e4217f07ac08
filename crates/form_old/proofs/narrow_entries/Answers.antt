use Prim.Native.Nat.{◌+◌, ◌*◌}
use mathlib.Core.Path.{◌≡◌, refl, sym, ◌∙◌}
use native.Mathlib.Omega.{arith}
use borrow.Rule.Slice.PartMut.{same_len_mid}
use Rattle.form_state.specs.Form.{entries_from, entry_count}
use Rattle.form_state.proofs.Replaced.{replaced_none, replaced_mid}
use Rattle.form_old.specs.Old.{narrowed_entries}
use Rattle.form_old.proofs.Turns.{narrow_more, slice_50}
use Rattle.form_old.proofs.narrow_entries.Goals as goal

pub loop-i-init : goal.loop-i-init
unfolding narrowed_entries
loop-i-init c = (omega arith, refl, sym (replaced_none c.args.old.now entries_from))

pub loop-i-preserved : goal.loop-i-preserved
loop-i-preserved c =
    let a = c.args in
    let l = c.loop-i in
    let long = slice_50 a.state.now (236 + 100 * l.i) (omega (arith, c.requires.0)) in (
      omega arith,
      same_len_mid _ _ l.old _ c.copy_from_slice.ensures.len ∙ l.invariant.1,
      narrow_more a.old.now a.state.now c.requires.0 c.requires.1 l.old _ l.i (omega arith) l.invariant.2
          (replaced_mid l.old _ _ (236 + 50 * l.i) _ c.copy_from_slice.ensures.after (omega (arith, long))),
    )

pub shape_of-old : goal.shape_of-old
shape_of-old c = c.loop-i.invariant.1

pub returns : goal.returns
returns c = let e : c.loop-i.i ≡ entry_count = omega arith in rw (← e) c.loop-i.invariant.2

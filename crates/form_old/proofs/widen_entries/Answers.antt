use Prim.Native.Nat.{◌+◌, ◌*◌}
use mathlib.Core.Path.{◌≡◌, refl, sym, ◌∙◌}
use native.Mathlib.Omega.{arith}
use Rattle.form_state.specs.Form.{entries_from, entry_count}
use Rattle.form_state.proofs.Replaced.{replaced_none}
use Rattle.form_old.specs.Old.{widened_entries}
use Rattle.form_old.proofs.Turns.{widen_more, slice_50}
use Rattle.form_old.proofs.widen_entries.Goals as goal

pub loop-i-init : goal.loop-i-init
unfolding widened_entries
loop-i-init c = (omega arith, refl, sym (replaced_none c.args.state.now entries_from))

pub put_wide-requires : goal.put_wide-requires
put_wide-requires c = (slice_50 c.args.old.now (236 + 50 * c.loop-i.i) (omega (arith, c.requires.0)), omega (arith, c.requires.1, c.loop-i.invariant.1))

pub loop-i-preserved : goal.loop-i-preserved
loop-i-preserved c =
    let a = c.args in
    let l = c.loop-i in (
      omega arith,
      c.put_wide.auto.state ∙ l.invariant.1,
      widen_more a.state.now a.old.now c.requires.0 c.requires.1 l.state _ l.i (omega arith) l.invariant.2 c.put_wide.ensures,
    )

pub shape_of-state : goal.shape_of-state
shape_of-state c = c.loop-i.invariant.1

pub returns : goal.returns
returns c = let e : c.loop-i.i ≡ entry_count = omega arith in rw (← e) c.loop-i.invariant.2

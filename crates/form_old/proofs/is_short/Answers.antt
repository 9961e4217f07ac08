use Prim.Native.Nat.{◌+◌, ◌-◌, ◌*◌}
use mathlib.Core.Path.{ap, ◌∙◌}
use mathlib.Core.Bool.{Bool, ◌&&◌}
use native.Mathlib.Omega.{arith}
use lib.ListN.{drop}
use Rattle.macros.specs.Bounds.{most_entry_bytes}
use Rattle.form_state.specs.Form.{entries_from, entry_count}
use Rattle.form_state.specs.Check.{blocks_check}
use Rattle.form_state.proofs.Steps.{blocks_start, blocks_step, blocks_end}
use Rattle.form_old.specs.Old.{short_check, short_entries}
use Rattle.form_old.proofs.Turns.{short_byte}
use Rattle.form_old.proofs.is_short.Goals as goal

pub loop-i-init : goal.loop-i-init
loop-i-init c = (omega arith, blocks_start short_check most_entry_bytes entry_count (drop entries_from c.args.state.now))

pub loop-i-preserved : goal.loop-i-preserved
loop-i-preserved c =
    let s = c.args.state.now in
    let l = c.loop-i in (
      omega arith,
      ap (λ (t : Bool). (l.ok && t) && blocks_check short_check most_entry_bytes (entry_count - (l.i + 1)) (drop (most_entry_bytes * (l.i + 1)) (drop entries_from s))) (short_byte s l.i)
          ∙ blocks_step short_check most_entry_bytes entry_count (drop entries_from s) l.i l.ok _ (omega arith) l.invariant.1,
    )

pub returns : goal.returns
unfolding short_entries
returns c =
    let l = c.loop-i in
    blocks_end short_check most_entry_bytes entry_count (drop entries_from c.args.state.now) l.i l.ok (omega arith) l.invariant.1

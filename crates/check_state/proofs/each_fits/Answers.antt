use Prim.Native.Nat.{ℕ, ◌+◌, ◌*◌, ◌-◌}
use mathlib.Core.Path.{◌≡◌, ap, ◌∙◌}
use mathlib.Core.Bool.{Bool, ◌&&◌}
use native.Mathlib.Omega.{arith}
use lib.ListN.{take, drop}
use Rattle.macros.specs.Bounds.{most_entry_bytes}
use Rattle.form_state.specs.Check.{entry_check, blocks_check}
use Rattle.form_state.proofs.Steps.{blocks_start, blocks_step, blocks_end}
use Rattle.check_state.proofs.each_fits.Goals as goal

pub loop-i-init : goal.loop-i-init
loop-i-init c = (omega arith, blocks_start entry_check most_entry_bytes 20 c.args.stack.now)

pub loop-i-preserved : goal.loop-i-preserved
loop-i-preserved c =
    let l = c.args.stack.now in
    let i = c.loop-i.i in
    let whole : most_entry_bytes * i + most_entry_bytes - most_entry_bytes * i ≡ most_entry_bytes = omega arith in (
      omega arith,
      ap (λ (t : Bool). (c.loop-i.ok && t) && blocks_check entry_check most_entry_bytes (20 - (i + 1)) (drop (most_entry_bytes * (i + 1)) l))
          (c.entry_fits-ok.ensures ∙ ap (λ (k : ℕ). entry_check (take k (drop (most_entry_bytes * i) l))) whole)
          ∙ blocks_step entry_check most_entry_bytes 20 l i c.loop-i.ok _ (omega arith) c.loop-i.invariant.1,
    )

pub returns : goal.returns
returns c = blocks_end entry_check most_entry_bytes 20 c.args.stack.now c.loop-i.i c.loop-i.ok (omega arith) c.loop-i.invariant.1

use Prim.Native.Nat.{ℕ, ◌+◌, ◌*◌, ◌-◌}
use mathlib.Core.Path.{◌≡◌, ap, ◌∙◌}
use mathlib.Core.Bool.{Bool, ◌&&◌}
use native.Mathlib.Omega.{arith}
use lib.ListN.{take, drop, length-drop}
use lib.Seq.{length-take-le}
use Rattle.form_state.specs.Form.{stack_bytes}
use Rattle.macros.specs.Bounds.{most_entry_bytes}
use Rattle.form_state.specs.Check.{entry_check, blocks_check}
use Rattle.form_state.proofs.Steps.{blocks_start, blocks_step, blocks_end}
use Rattle.form_state.proofs.Blocks.{blocks_of}
use Rattle.check_state.proofs.entries_fit.Goals as goal

pub loop-i-init : goal.loop-i-init
loop-i-init c = (omega arith, blocks_start (blocks_check entry_check most_entry_bytes 20) stack_bytes 26 c.args.entries.now)

pub stack_fits-ok-requires : goal.stack_fits-ok-requires
stack_fits-ok-requires c =
    let l = c.args.entries.now in
    let i = c.loop-i.i in
    let whole : stack_bytes * i + stack_bytes - stack_bytes * i ≡ stack_bytes = omega arith in
    rw whole (length-take-le stack_bytes (drop (stack_bytes * i) l) (omega (arith, length-drop (stack_bytes * i) l)))

pub loop-i-preserved : goal.loop-i-preserved
loop-i-preserved c =
    let l = c.args.entries.now in
    let i = c.loop-i.i in
    let whole : stack_bytes * i + stack_bytes - stack_bytes * i ≡ stack_bytes = omega arith in (
      omega arith,
      ap (λ (t : Bool). (c.loop-i.ok && t) && blocks_check (blocks_check entry_check most_entry_bytes 20) stack_bytes (26 - (i + 1)) (drop (stack_bytes * (i + 1)) l))
          (c.stack_fits-ok.ensures ∙ ap (λ (k : ℕ). blocks_check entry_check most_entry_bytes 20 (take k (drop (stack_bytes * i) l))) whole)
          ∙ blocks_step (blocks_check entry_check most_entry_bytes 20) stack_bytes 26 l i c.loop-i.ok _ (omega arith) c.loop-i.invariant.1,
    )

pub returns : goal.returns
returns c =
    let l = c.args.entries.now in
    blocks_end (blocks_check entry_check most_entry_bytes 20) stack_bytes 26 l c.loop-i.i c.loop-i.ok (omega arith) c.loop-i.invariant.1 ∙ blocks_of entry_check most_entry_bytes 20 26 l

use Prim.Native.Nat.{ℕ}
use mathlib.Core.Path.{◌≡◌, refl, ap, ◌∙◌}
use native.Mathlib.Omega.{arith}
use lib.ListN.{length, length-set}
use lib.Seq.{paste, paste-zero}
use Rattle.pass_steps.proofs.Copying.{copy_next}
use Rattle.pass_steps.proofs.copy.Goals as goal

pub loop-i-init : goal.loop-i-init
loop-i-init c = (omega arith, refl, paste-zero c.args.out.now c.args.at c.args.bytes.now)

pub loop-i-preserved : goal.loop-i-preserved
loop-i-preserved c = (omega arith, simp length-set c.loop-i.invariant.1, copy_next c.args.out.now c.loop-i.out c.args.bytes.now c.args.at c.loop-i.i _ _ c.loop-i.invariant.2 (omega arith) (omega arith) (omega arith) (omega arith))

pub returns : goal.returns
returns c = c.loop-i.invariant.2 ∙ ap (λ (k : ℕ). paste c.args.out.now c.args.at c.args.bytes.now k) (let z : c.loop-i.i ≡ length c.args.bytes.now = omega arith in z)

use Prim.Native.Nat.{ℕ, ◌+◌, ◌<◌}
use mathlib.Core.Path.{◌≡◌, refl, ap, sym, ◌∙◌}
use mathlib.Core.List.{List, ◌++◌}
use native.Mathlib.Nat.{zero-add}
use native.Mathlib.Numerals.{add-one}
use native.Mathlib.Omega.{arith}
use lib.ListN.{length, get_or, take, drop, set, length-set}
use lib.Seq.{paste, paste-zero, paste-suc}
use Rattle.pass_moment.proofs.start.Goals as goal

next : (old out line : List ℕ) (i : ℕ) → out ≡ paste old 0 line i → i < length old → i < length line → set out i (get_or line i 0) ≡ paste old 0 line (i + 1)
next old out line i e h l =
    ap (λ (x : List ℕ). set x i (get_or line i 0)) e
    ∙ ap (λ (k : ℕ). set (paste old 0 line i) k (get_or line i 0)) (sym (zero-add i))
    ∙ paste-suc old 0 line i 0 (omega arith) l
    ∙ ap (λ (k : ℕ). paste old 0 line k) (sym (add-one i))

pub loop-i-init : goal.loop-i-init
loop-i-init c = (omega arith, refl, paste-zero c.args.out.now 0 c.args.line.now)

pub loop-i-preserved : goal.loop-i-preserved
loop-i-preserved c = (omega arith, simp length-set c.loop-i.invariant.1, next c.args.out.now c.loop-i.out c.args.line.now c.loop-i.i c.loop-i.invariant.2 (omega arith) (omega arith))

pub returns : goal.returns
returns c =
    let e : c.loop-i.i ≡ c.args.p = omega arith in
    record {
      moment = refl;
      copied = c.loop-i.invariant.2 ∙ ap (λ (k : ℕ). paste c.args.out.now 0 c.args.line.now k) e ∙ ap (λ (k : ℕ). take c.args.p c.args.line.now ++ drop k c.args.out.now) (zero-add c.args.p);
    }

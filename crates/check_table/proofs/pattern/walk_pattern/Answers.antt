use Prim.Native.Nat.{◌+◌, ◌*◌}
use mathlib.Core.Path.{◌≡◌, refl, sym, ap, ◌∙◌}
use native.Mathlib.Omega.{arith}
use Rattle.form_table.specs.PatternWalk.{pattern_step, pattern_start}
use Rattle.check_table.specs.PatternCode.{joint_of, spot_of, state_of, next_of}
use Rattle.check_table.proofs.WalkLaws.{walk_on, walk_refused, walk_odd, walk_done, pattern_next, pattern_bound}
use Rattle.check_table.proofs.pattern.walk_pattern.Goals as goal

pub loop-i-init : goal.loop-i-init
unfolding pattern_start joint_of spot_of state_of
loop-i-init c = (omega arith, refl)

pub returns-in_err-s : goal.returns-in_err-s
unfolding next_of
returns-in_err-s c = ap next_of c.from_residual.ensures ∙ sym (c.loop-i.invariant.1 ∙ walk_refused pattern_step c.args.items.now (state_of c.loop-i.s) (2 * c.loop-i.i) (omega arith) (sym c.in_err-s.ensures))

pub loop-i-preserved : goal.loop-i-preserved
loop-i-preserved c =
    let next : 2 * (c.loop-i.i + 1) ≡ 2 * c.loop-i.i + 2 = omega arith in
    (omega (arith, pattern_bound c.in_ok-s.s _ refl c.loop-i.s _ _ c.in_ok-s.ensures), rw next (c.loop-i.invariant.1 ∙ walk_on pattern_step c.args.items.now (state_of c.loop-i.s) (2 * c.loop-i.i) _ (omega arith) (pattern_next c.in_ok-s.s _ refl _ c.in_ok-s.ensures)))

pub returns-then-items-eq1 : goal.returns-then-items-eq1
unfolding next_of
returns-then-items-eq1 c = sym (c.loop-i.invariant.1 ∙ walk_odd pattern_step c.args.items.now (state_of c.loop-i.s) (2 * c.loop-i.i) (omega (arith, c.if-items-eq1.true)) (omega (arith, c.if-items-eq1.true)))

pub returns : goal.returns
unfolding next_of
returns c = sym (c.loop-i.invariant.1 ∙ walk_done pattern_step c.args.items.now (state_of c.loop-i.s) (2 * c.loop-i.i) (omega (arith, c.if-items-eq1.false)))

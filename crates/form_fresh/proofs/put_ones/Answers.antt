use mathlib.Core.Path.{◌≡◌, refl, sym, ◌∙◌}
use native.Mathlib.Omega.{arith}
use Rattle.form_state.specs.Access.{replaced}
use Rattle.form_bytes.specs.Fours.{four, with_number}
use Rattle.form_state.proofs.Replaced.{replaced_none}
use Rattle.form_fresh.specs.Ones.{ones}
use Rattle.form_fresh.proofs.Fresh.{ones_more}
use Rattle.form_fresh.proofs.put_ones.Goals as goal

pub loop-i-init : goal.loop-i-init
unfolding ones
loop-i-init c = (omega arith, refl, sym (replaced_none c.args.state.now 28))

pub loop-i-preserved : goal.loop-i-preserved
unfolding replaced four with_number
loop-i-preserved c =
    let b = c.args.state.now in
    (omega arith, c.put_number.auto.out ∙ c.loop-i.invariant.1, ones_more b c.loop-i.state c.put_number.new.out c.loop-i.i (omega arith) (omega arith) c.loop-i.invariant.2 c.put_number.ensures)

pub shape_of-state : goal.shape_of-state
shape_of-state c = c.loop-i.invariant.1

pub returns : goal.returns
returns c = let e : c.loop-i.i ≡ 52 = omega arith in rw (← e) c.loop-i.invariant.2

use Prim.Native.Nat.{◌+◌}
use mathlib.Core.Path.{refl, sym, ◌∙◌}
use native.Mathlib.Omega.{arith}
use lib.ListN.{get_or, length-set}
use Rattle.form_state.proofs.Replaced.{replaced_none, text_more, text_end}
use Rattle.form_old.proofs.copy.Goals as goal

pub loop-i-init : goal.loop-i-init
loop-i-init c = (omega arith, refl, sym (replaced_none c.args.out.now c.args.at))

pub loop-i-preserved : goal.loop-i-preserved
loop-i-preserved c =
    let a = c.args in
    let l = c.loop-i in
    (omega arith, length-set l.out (a.at + l.i) (get_or a.text.now l.i 0) ∙ l.invariant.1, text_more a.out.now l.out a.text.now a.at l.i (omega arith) (omega (arith, c.requires)) l.invariant.2)

pub shape_of-out : goal.shape_of-out
shape_of-out c = c.loop-i.invariant.1

pub returns : goal.returns
returns c =
    let a = c.args in
    let l = c.loop-i in
    text_end a.out.now l.out a.text.now a.at l.i (omega arith) l.invariant.2

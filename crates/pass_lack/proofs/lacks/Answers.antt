use mathlib.Core.Path.{sym, ap}
use mathlib.Core.Bool.{false≢true}
use native.Mathlib.Omega.{arith}
use lib.ListN.{length, length-drop}
use Rattle.form_table.proofs.Actions.{tail_part}
use Rattle.pass_lack.proofs.LackLaws.{absent_here, absent_next, absent_past, absent_over}
use Rattle.pass_lack.proofs.lacks.Goals as goal

pub loop-rest-init : goal.loop-rest-init
loop-rest-init c = record { within = λ h. h; left = λ h. h }

pub returns-then-lacks_item : goal.returns-then-lacks_item
returns-then-lacks_item c =
    let rest = c.loop-rest.rest.now in
    (λ e. c.loop-rest.invariant.within (absent_here c.args.present.now rest c.in-len2-up.len_at_least (c.lacks_item.ensures.0 c.if-lacks_item.true)), λ e. absurd (false≢true (sym e)))

pub loop-rest-smaller : goal.loop-rest-smaller
loop-rest-smaller c =
    let rest = c.loop-rest.rest.now in
    omega (arith, ap length (tail_part rest 2), length-drop 2 rest, c.in-len2-up.len_at_least)

pub loop-rest-preserved : goal.loop-rest-preserved
loop-rest-preserved c =
    let flags = c.args.present.now in
    let rest = c.loop-rest.rest.now in
    rw (tail_part rest 2) (record {
      within = λ h. c.loop-rest.invariant.within (absent_next flags rest c.in-len2-up.len_at_least h);
      left = λ h. absent_past flags rest (c.lacks_item.ensures.1 c.if-lacks_item.false) (c.loop-rest.invariant.left h);
    })

pub returns : goal.returns
returns c = (λ e. absurd (false≢true e), λ e h. absent_over c.args.present.now c.loop-rest.rest.now c.in_default.len_below (c.loop-rest.invariant.left h))

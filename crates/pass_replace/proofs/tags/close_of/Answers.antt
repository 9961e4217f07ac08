use mathlib.Core.Path.{sym, ◌∙◌}
use native.Mathlib.Omega.{arith}
use lib.ListN.{length-drop}
use Rattle.form_table.proofs.Actions.{tail_part}
use Rattle.pass_replace.proofs.Braces.{close_short, close_left, close_here, close_right, close_other}
use Rattle.pass_replace.proofs.tags.close_of.Goals as goal
use Rattle.pass_replace.proofs.tags.close_of.Goals.{in-1, in-2-2, in_default-code}

pub returns-in-2 : goal.returns-in-2
returns-in-2 c =
    c.from.ensures ∙ sym (c.loop-rest.invariant.same ∙ close_here c.loop-rest.rest.now c.loop-rest.stops.now c.in-len2-up.len_at_least c.loop-rest.n c.in-2.is (omega arith))

pub loop-rest-preserved : goal.loop-rest-preserved
loop-rest-preserved c =
    let rest = c.loop-rest.rest.now in
    let stops = c.loop-rest.stops.now in
    let n = c.loop-rest.n in
    let now = c.loop-rest.invariant in
    let two = c.in-len2-up.len_at_least in
    let d = length-drop 2 rest in
    let e = length-drop 2 stops in
    elim c.match-code.branch [
      | in-1 w ↦ rw (tail_part rest 2, tail_part stops 2, w.n-is) (record { long = omega arith; few = omega arith; same = now.same ∙ close_left rest stops two n w.in-1.is })
      | in-2-2 w ↦ rw (tail_part rest 2, tail_part stops 2, w.n-is) (record { long = omega arith; few = omega arith; same = now.same ∙ close_right rest stops two n w.in-2.is (omega arith) })
      | in_default-code w ↦ rw (tail_part rest 2, tail_part stops 2, w.n-is) (record { long = omega arith; few = omega arith; same = now.same ∙ close_other rest stops two n (λ e. omega arith) (λ e. omega arith) })
    ]

pub returns : goal.returns
returns c = sym (c.loop-rest.invariant.same ∙ close_short c.loop-rest.rest.now c.loop-rest.stops.now c.loop-rest.n c.in_default.len_below)

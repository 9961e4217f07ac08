use mathlib.Core.Path.{ap}
use native.Mathlib.Omega.{arith}
use lib.ListN.{length, length-drop}
use Rattle.form_table.proofs.Actions.{some_size, tail_part}
use Rattle.write_put.proofs.Putting.{left_all, left_next, left_done}
use Rattle.write_actions.proofs.Steps.{actions_next, actions_end, whole_here, whole_on, some_left, none_left}
use Rattle.write_actions.proofs.add_actions.Goals as goal

pub loop-rest-init : goal.loop-rest-init
loop-rest-init g c = (c.requires.0, c.requires.1, left_all g.met.S.Sink.laws)

pub add_action-n-requires : goal.add_action-n-requires
add_action-n-requires g c = (c.loop-rest.invariant.0, whole_here c.loop-rest.invariant.1 (some_left c.loop-rest-test.ensures))

pub action_size-requires : goal.action_size-requires
action_size-requires g c = whole_here c.loop-rest.invariant.1 (some_left c.loop-rest-test.ensures)

pub slice_bounds-rest-count : goal.slice_bounds-rest-count
slice_bounds-rest-count g c = let h = whole_here c.loop-rest.invariant.1 (some_left c.loop-rest-test.ensures) in omega (arith, c.action_size.ensures)

pub slice_bounds-rest-start : goal.slice_bounds-rest-start
slice_bounds-rest-start g c = let h = whole_here c.loop-rest.invariant.1 (some_left c.loop-rest-test.ensures) in omega (arith, c.action_size.ensures)

pub loop-rest-smaller : goal.loop-rest-smaller
loop-rest-smaller g c =
    let t = c.loop-rest.rest.now in
    let n = c.action_size.result in
    omega (arith, ap length (tail_part t n), length-drop n t, some_size t, some_left c.loop-rest-test.ensures, c.action_size.ensures)

pub loop-rest-preserved : goal.loop-rest-preserved
loop-rest-preserved g c =
    let laws = g.met.S.Sink.laws in
    let inv = c.loop-rest.invariant in
    let t = c.loop-rest.rest.now in
    let more = some_left c.loop-rest-test.ensures in
    let e = c.action_size.ensures in (
      laws.kept inv.0 c.add_action-n.ensures,
      rw (tail_part t c.action_size.result, e) (whole_on inv.1 more),
      rw (tail_part t c.action_size.result) (left_next laws inv.2 (actions_next t more e) c.add_action-n.ensures),
    )

pub returns : goal.returns
returns g c = left_done g.met.S.Sink.laws c.loop-rest.invariant.2 (actions_end c.loop-rest.rest.now (none_left c.loop-rest-test.ensures))

use Prim.Native.Nat.{◌-◌}
use mathlib.Core.Path.{◌∙◌}
use native.Mathlib.Omega.{arith}
use lib.ListN.{length-drop}
use Rattle.form_table.proofs.Actions.{tail_part}
use Rattle.pass_replace.proofs.Braces.{tag_left, tag_other, among_behind, spans_here, spans_none}
use Rattle.pass_replace.proofs.tags.tag_of.Goals as goal
use Rattle.pass_replace.proofs.tags.tag_of.Goals.{then-code-eq1+else-left-lt2, else-code-eq1}

pub returns-then-left-lt2 : goal.returns-then-left-lt2
returns-then-left-lt2 c =
    let rest = c.loop-rest.rest.now in
    let stops = c.loop-rest.stops.now in
    let now = c.loop-rest.invariant in
    spans_here c.args.pat.now c.args.ends.now rest stops (c.args.n - 1) (c.loop-rest.left - 1) now.same now.among c.in-len2-up.len_at_least c.if-code-eq1.true (omega (arith, c.if-left-lt2.true)) c.from.ensures
    (rw (tail_part rest 2, tail_part stops 2) at c.close_of-to.ensures) c.min-from.ensures

pub loop-rest-preserved : goal.loop-rest-preserved
loop-rest-preserved c =
    let rest = c.loop-rest.rest.now in
    let stops = c.loop-rest.stops.now in
    let left = c.loop-rest.left in
    let now = c.loop-rest.invariant in
    let two = c.in-len2-up.len_at_least in
    let d = length-drop 2 rest in
    let e = length-drop 2 stops in
    elim c.if-code-eq1.branch [
      | then-code-eq1+else-left-lt2 w ↦ rw (tail_part rest 2, tail_part stops 2, w.left-is) (record {
        long = omega arith;
        few = omega arith;
        among = among_behind stops c.args.ends.now now.among;
        same = λ t. now.same t ∙ tag_left rest stops two t (left - 1) w.if-code-eq1.true (omega (arith, w.if-left-lt2.false));
      })
      | else-code-eq1 w ↦ rw (tail_part rest 2, tail_part stops 2, w.left-is) (record {
        long = omega arith;
        few = omega arith;
        among = among_behind stops c.args.ends.now now.among;
        same = λ t. now.same t ∙ tag_other rest stops two t (left - 1) w.if-code-eq1.false;
      })
    ]

pub returns : goal.returns
returns c =
    spans_none c.args.pat.now c.args.ends.now c.loop-rest.rest.now c.loop-rest.stops.now (c.args.n - 1) (c.loop-rest.left - 1) c.loop-rest.invariant.same c.in_default.len_below

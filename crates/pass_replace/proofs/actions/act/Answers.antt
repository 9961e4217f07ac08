use mathlib.Core.Path.{sym, ap, ◌∙◌}
use native.Mathlib.Omega.{arith}
use lib.ListN.{length, length-drop}
use Rattle.std.proofs.lemmas.Result.{err_from_is_err_and}
use Rattle.form_table.proofs.Actions.{some_size, tail_part}
use Rattle.pass_replace.specs.Acting.{acts_in}
use Rattle.pass_replace.proofs.Braces.{span_cut}
use Rattle.pass_replace.proofs.Acting.{acts_tagged, rest_all, rest_end, rest_stop, rest_next, some_left, none_left, fit_first, fit_rest}
use Rattle.pass_replace.proofs.actions.act.Goals as goal

pub loop-rest-init : goal.loop-rest-init
loop-rest-init c = record { state = c.requires.2; room = c.requires.3.fits; fits = c.requires.1; to_do = rest_all }

pub span_of-span-requires : goal.span_of-span-requires
span_of-span-requires c = (c.requires.0.ended, fit_first c.loop-rest.invariant.fits (some_left c.loop-rest-test.ensures))

pub action-requires : goal.action-requires
action-requires c =
    let now = c.loop-rest.invariant in
    (span_cut c.requires.0 c.span_of-span.ensures, fit_first now.fits (some_left c.loop-rest-test.ensures), now.state, record { room = c.loop-rest.auto.out ∙ c.requires.3.room; fits = now.room })

pub returns-in_err-size : goal.returns-in_err-size
returns-in_err-size c =
    let line = c.args.line.now in
    let pat = c.args.pat.now in
    let ends = c.args.ends.now in
    let p = err_from_is_err_and c.from_residual.result c.from_residual.ensures.1 in
    rw (p.1, p.2) (rest_stop (acts_in line pat ends) c.loop-rest.invariant.to_do (some_left c.loop-rest-test.ensures) (acts_tagged line pat ends _ (sym (c.span_of-span.ensures.text line)) c.in_err-size.ensures))

pub action_size-requires : goal.action_size-requires
action_size-requires c = (fit_first c.loop-rest.invariant.fits (some_left c.loop-rest-test.ensures)).held

pub slice_bounds-rest-count : goal.slice_bounds-rest-count
slice_bounds-rest-count c = let f = (fit_first c.loop-rest.invariant.fits (some_left c.loop-rest-test.ensures)).held in omega (arith, c.action_size.ensures)

pub slice_bounds-rest-start : goal.slice_bounds-rest-start
slice_bounds-rest-start c = let f = (fit_first c.loop-rest.invariant.fits (some_left c.loop-rest-test.ensures)).held in omega (arith, c.action_size.ensures)

pub loop-rest-smaller : goal.loop-rest-smaller
loop-rest-smaller c =
    let t = c.loop-rest.rest.now in
    let n = c.action_size.result in
    omega (arith, ap length (tail_part t n), length-drop n t, some_size t, some_left c.loop-rest-test.ensures, c.action_size.ensures)

pub loop-rest-preserved : goal.loop-rest-preserved
loop-rest-preserved c =
    let line = c.args.line.now in
    let pat = c.args.pat.now in
    let ends = c.args.ends.now in
    let now = c.loop-rest.invariant in
    record {
      state = c.in_ok-size.ensures.state;
      room = c.in_ok-size.ensures.fits;
      fits = rw (tail_part c.loop-rest.rest.now c.action_size.result, c.action_size.ensures) (fit_rest now.fits (some_left c.loop-rest-test.ensures));
      to_do = rw (tail_part c.loop-rest.rest.now c.action_size.result) (rest_next (acts_in line pat ends) now.to_do (some_left c.loop-rest-test.ensures) (acts_tagged line pat ends _ (sym (c.span_of-span.ensures.text line)) c.in_ok-size.ensures) c.action_size.ensures);
    }

pub returns : goal.returns
returns c =
    let now = c.loop-rest.invariant in
    rest_end (acts_in c.args.line.now c.args.pat.now c.args.ends.now) now.to_do (none_left c.loop-rest-test.ensures) now.state now.room

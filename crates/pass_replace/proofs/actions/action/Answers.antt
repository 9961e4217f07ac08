use native.Mathlib.Omega.{arith}
use Rattle.std.proofs.lemmas.Result.{err_from_is_err_and}
use Rattle.form_table.proofs.Actions.{some_size}
use Rattle.pass_replace.proofs.Acting.{action_before, action_between, action_after}
use Rattle.pass_replace.proofs.actions.action.Goals as goal

pub bounds-t-1 : goal.bounds-t-1
bounds-t-1 c = omega (arith, some_size c.args.t.now, c.requires.1.held)

pub returns-in_err-size : goal.returns-in_err-size
returns-in_err-size c =
    let p = err_from_is_err_and c.from_residual.result c.from_residual.ensures.1 in
    rw (p.1, p.2) (action_before _ c.args.t.now c.requires.3.fits c.in_err-size.ensures)

pub returns-in_err-size-2 : goal.returns-in_err-size-2
returns-in_err-size-2 c =
    let p = err_from_is_err_and c.from_residual-in_err-size-2.result c.from_residual-in_err-size-2.ensures.1 in
    rw (p.1, p.2) (action_between _ c.args.t.now c.requires.3.fits c.in_ok-size.ensures c.in_err-size-2.ensures)

pub returns : goal.returns
returns c = action_after _ c.args.t.now c.requires.3.fits c.in_ok-size.ensures c.in_ok-size-2.ensures c.shift-2.ensures

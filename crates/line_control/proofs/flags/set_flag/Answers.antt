use Rattle.std.proofs.Common.{arith, sym, ◌∙◌}
use Rattle.read_scan.proofs.Laws.{handed_on}
use Rattle.form_state.proofs.Held.{is_long_lem, trace_set, nflag_set}
use Rattle.line_control.proofs.Controls.{prefix_is, sets_trace, trace_refused, sets_nflag, nflag_refused, sets_none}
use Rattle.line_control.proofs.flags.set_flag.Goals as goal

pub returns-in_err-state : goal.returns-in_err-state
returns-in_err-state c =
    let e = c.in-Some.ensures.cases in
    rw (handed_on c.from_residual.ensures) (trace_refused (sym (prefix_is _ c.args.line.now) ∙ e.0) (rw e.1 at c.in_err-state.ensures))

pub bounds-state-0 : goal.bounds-state-0
bounds-state-0 c = omega (arith, is_long_lem c.args.state.now c.requires)

pub returns-in-Some : goal.returns-in-Some
returns-in-Some c =
    let e = c.in-Some.ensures.cases in
    let v = rw e.1 at c.in_ok-state.ensures in
    sets_trace (sym (prefix_is _ c.args.line.now) ∙ e.0) v (λ st h. trace_set c.args.state.now st _ h v.1)

pub returns-in_err-state-2 : goal.returns-in_err-state-2
returns-in_err-state-2 c =
    let e = c.in-Some-strip_prefix.ensures.cases in
    rw (handed_on c.from_residual-in_err-state-2.ensures) (nflag_refused (sym (prefix_is _ c.args.line.now) ∙ e.0) (rw e.1 at c.in_err-state-2.ensures))

pub bounds-state-1 : goal.bounds-state-1
bounds-state-1 c = omega (arith, is_long_lem c.args.state.now c.requires)

pub returns-in-Some-strip_prefix : goal.returns-in-Some-strip_prefix
returns-in-Some-strip_prefix c =
    let e = c.in-Some-strip_prefix.ensures.cases in
    let v = rw e.1 at c.in_ok-state-2.ensures in
    sets_nflag (sym (prefix_is _ c.args.line.now) ∙ e.0) v (λ st h. nflag_set c.args.state.now st _ h v.1)

pub returns : goal.returns
returns c = sets_none (sym (prefix_is _ c.args.line.now) ∙ c.in_default.ensures.cases) (sym (prefix_is _ c.args.line.now) ∙ c.in_default-strip_prefix.ensures.cases)

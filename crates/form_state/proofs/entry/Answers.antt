use native.Mathlib.Omega.{arith}
use lib.ListN.{drop}
use Rattle.form_state.proofs.Held.{is_long_lem, text_fits, entry_is}
use Rattle.form_state.proofs.entry.Goals as goal

pub slice_bounds-text_length-end : goal.slice_bounds-text_length-end
slice_bounds-text_length-end c = omega (arith, is_long_lem c.args.state.now c.requires.0, c.entry_at-at.ensures.0)

pub overflow_add-result : goal.overflow_add-result
overflow_add-result c = omega (arith, c.entry_at-at.ensures.0, text_fits c.text_length-n.result c.entry_at-at.result (drop c.entry_at-at.result c.args.state.now) c.text_length-n.ensures)

pub slice_bounds-result-end : goal.slice_bounds-result-end
slice_bounds-result-end c = omega (arith, is_long_lem c.args.state.now c.requires.0, c.entry_at-at.ensures.0, text_fits c.text_length-n.result c.entry_at-at.result (drop c.entry_at-at.result c.args.state.now) c.text_length-n.ensures)

pub returns : goal.returns
returns c = λ st h.
    let at = c.entry_at-at in
    entry_is c.args.state.now st h c.args.i c.requires.1 at.result c.text_length-n.result (at.ensures.1 st h) c.text_length-n.ensures

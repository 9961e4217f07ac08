use native.Mathlib.Omega.{arith}
use Rattle.form_table.proofs.Actions.{size_text, text_part}
use Rattle.pass_replace.proofs.actions.text_in.Goals as goal

pub bounds-t-3 : goal.bounds-t-3
bounds-t-3 c = omega (arith, size_text c.args.t.now c.requires.1 c.requires.2, c.requires.0.held)

pub slice_bounds-result-end : goal.slice_bounds-result-end
slice_bounds-result-end c = let n = c.from-end.ensures in omega (arith, size_text c.args.t.now c.requires.1 c.requires.2, c.requires.0.held)

pub returns : goal.returns
returns c = rw c.from-end.ensures (text_part c.args.t.now)

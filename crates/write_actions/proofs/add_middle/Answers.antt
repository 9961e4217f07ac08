use lib.ListN.{get_or}
use Rattle.macros.specs.Write.{digits, write_text}
use mathlib.Core.Path.{ap}
use Rattle.form_table.specs.Actions.{number_in}
use Rattle.form_table.proofs.Actions.{some_size, size_text, size_set, text_part}
use Rattle.write_put.proofs.Putting.{added_as}
use Rattle.write_actions.specs.Items.{middle_text}
use Rattle.macros.specs.Macro.{pick}
use borrow.Author.Tests.{lt-ltb, le-ltb}
use native.Mathlib.Omega.{arith}
use Rattle.write_actions.proofs.add_middle.Goals as goal

pub bounds-t-0 : goal.bounds-t-0
bounds-t-0 g c = omega (arith, some_size c.args.t.now)

pub returns-in-0-to-71 : goal.returns-in-0-to-71
unfolding middle_text pick
returns-in-0-to-71 g c = simp (lt-ltb (get_or c.args.t.now 0 0) 72 (omega arith)) g.met.S.Sink.laws.none

pub bounds-t-3 : goal.bounds-t-3
bounds-t-3 g c = omega (arith, size_text c.args.t.now (omega arith) (omega arith))

pub overflow_add-end : goal.overflow_add-end
overflow_add-end g c = omega (arith, c.from-end.ensures)

pub slice_bounds-add_text-end : goal.slice_bounds-add_text-end
slice_bounds-add_text-end g c = omega (arith, size_text c.args.t.now (omega arith) (omega arith))

pub returns-in-72-to-79 : goal.returns-in-72-to-79
unfolding middle_text pick
returns-in-72-to-79 g c = simp (le-ltb (get_or c.args.t.now 0 0) 72 (omega arith), lt-ltb (get_or c.args.t.now 0 0) 80 (omega arith)) (added_as g.met.S.Sink.laws (rw c.from-end.ensures (ap write_text (text_part c.args.t.now))) c.add_text.ensures)

pub number_at-requires : goal.number_at-requires
number_at-requires g c = omega (arith, size_set c.args.t.now (omega arith))

pub returns-in_default : goal.returns-in_default
unfolding middle_text pick number_in
returns-in_default g c = simp (le-ltb (get_or c.args.t.now 0 0) 72 (omega arith), le-ltb (get_or c.args.t.now 0 0) 80 (omega arith)) (added_as g.met.S.Sink.laws (ap digits c.number_at.ensures) c.add_number.ensures)

use mathlib.Core.Path.{sym}
use native.Mathlib.Omega.{arith}
use Rattle.form_table.proofs.Actions.{some_size, size_short, size_tag, size_text, size_set}
use Rattle.form_items.proofs.action_size.Goals as goal

pub bounds-t-0 : goal.bounds-t-0
bounds-t-0 c = omega (arith, some_size c.args.t.now, c.requires)

pub returns-in-0-to-63 : goal.returns-in-0-to-63
returns-in-0-to-63 c = sym (size_short c.args.t.now (omega arith))

pub returns-in-64-to-71 : goal.returns-in-64-to-71
returns-in-64-to-71 c = sym (size_tag c.args.t.now (omega arith) (omega arith))

pub bounds-t-3 : goal.bounds-t-3
bounds-t-3 c = omega (arith, size_text c.args.t.now (omega arith) (omega arith), c.requires)

pub returns-in-72-to-79 : goal.returns-in-72-to-79
returns-in-72-to-79 c = sym (size_text c.args.t.now (omega arith) (omega arith))

pub returns-in_default : goal.returns-in_default
returns-in_default c = sym (size_set c.args.t.now (omega arith))

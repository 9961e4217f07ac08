use native.Mathlib.Omega.{arith}
use Rattle.form_element.proofs.Items.{piece_inside, element_decoded}
use Rattle.form_element.proofs.element_at.Goals as goal

pub bounds-items-at : goal.bounds-items-at
bounds-items-at c = let l = piece_inside c.requires in omega arith

pub overflow_add-operand : goal.overflow_add-operand
overflow_add-operand c = let l = piece_inside c.requires in omega arith

pub bounds-items-at-2 : goal.bounds-items-at-2
bounds-items-at-2 c = let l = piece_inside c.requires in omega arith

pub returns : goal.returns
returns c = element_decoded c.args.items.now c.args.at c.unit_of.ensures c.closure_of.ensures

use mathlib.Core.Path.{◌∙◌}
use native.Mathlib.Omega.{arith}
use Rattle.pass_unit.proofs.ItemLaws.{first_inside, at_single_lem, at_range_lem}
use Rattle.pass_unit.proofs.has_byte.Goals as goal

pub bounds-items-i : goal.bounds-items-i
bounds-items-i c = let l = first_inside _ _ c.requires in omega arith

pub bounds-items-i-then-items-i-eq-SINGLE : goal.bounds-items-i-then-items-i-eq-SINGLE
bounds-items-i-then-items-i-eq-SINGLE c = let l = first_inside _ _ c.requires in omega arith

pub returns-then-items-i-eq-SINGLE : goal.returns-then-items-i-eq-SINGLE
returns-then-items-i-eq-SINGLE c = λ m ms r h. (at_single_lem c.args.items.now c.args.i c.args.b c.if-items-i-eq-SINGLE.true m ms r h).0

pub overflow_add-i : goal.overflow_add-i
overflow_add-i c = let l = first_inside _ _ c.requires in let k = (at_range_lem c.args.items.now c.args.i 0 c.if-items-i-eq-SINGLE.false c.requires.member c.requires.members c.requires.behind c.requires.is).1 in omega arith

pub bounds-items-i-else-items-i-eq-SINGLE : goal.bounds-items-i-else-items-i-eq-SINGLE
bounds-items-i-else-items-i-eq-SINGLE c = let l = first_inside _ _ c.requires in let k = (at_range_lem c.args.items.now c.args.i 0 c.if-items-i-eq-SINGLE.false c.requires.member c.requires.members c.requires.behind c.requires.is).1 in omega arith

pub overflow_add-i-else-items-i-eq-SINGLE : goal.overflow_add-i-else-items-i-eq-SINGLE
overflow_add-i-else-items-i-eq-SINGLE c = let l = first_inside _ _ c.requires in let k = (at_range_lem c.args.items.now c.args.i 0 c.if-items-i-eq-SINGLE.false c.requires.member c.requires.members c.requires.behind c.requires.is).1 in omega arith

pub bounds-items-i-else-items-i-eq-SINGLE-2 : goal.bounds-items-i-else-items-i-eq-SINGLE-2
bounds-items-i-else-items-i-eq-SINGLE-2 c = let l = first_inside _ _ c.requires in let k = (at_range_lem c.args.items.now c.args.i 0 c.if-items-i-eq-SINGLE.false c.requires.member c.requires.members c.requires.behind c.requires.is).1 in omega arith

pub returns-else-items-i-eq-SINGLE : goal.returns-else-items-i-eq-SINGLE
returns-else-items-i-eq-SINGLE c = λ m ms r h. c.in_range.ensures ∙ (at_range_lem c.args.items.now c.args.i c.args.b c.if-items-i-eq-SINGLE.false m ms r h).0

use native.Mathlib.Omega.{arith}
use Rattle.pass_unit.proofs.ItemLaws.{first_inside, at_single_lem, at_range_lem}
use Rattle.pass_unit.proofs.member_size.Goals as goal

pub bounds-items-i : goal.bounds-items-i
bounds-items-i c = let l = first_inside _ _ c.requires in omega arith

pub returns-then-items-i-eq-SINGLE : goal.returns-then-items-i-eq-SINGLE
returns-then-items-i-eq-SINGLE c = λ m ms r h. (at_single_lem c.args.items.now c.args.i 0 c.if-items-i-eq-SINGLE.true m ms r h).1

pub returns-else-items-i-eq-SINGLE : goal.returns-else-items-i-eq-SINGLE
returns-else-items-i-eq-SINGLE c = λ m ms r h. (at_range_lem c.args.items.now c.args.i 0 c.if-items-i-eq-SINGLE.false m ms r h).1

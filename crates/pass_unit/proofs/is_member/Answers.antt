use native.Mathlib.Omega.{arith}
use Rattle.pass_unit.proofs.ItemLaws.{walked_inside, walked_first, step_inside, found_here, not_here, not_found}
use Rattle.pass_unit.proofs.is_member.Goals as goal

pub bounds-items-i : goal.bounds-items-i
bounds-items-i c = let l = walked_inside _ _ _ _ c.loop-i.invariant in omega arith

pub has_byte-requires : goal.has_byte-requires
has_byte-requires c = walked_first _ _ _ _ c.loop-i.invariant c.loop-i-test.true

pub returns-then-has_byte : goal.returns-then-has_byte
returns-then-has_byte c = found_here _ _ _ _ c.loop-i.invariant c.loop-i-test.true _ c.has_byte.ensures c.if-has_byte.true

pub member_size-i-requires : goal.member_size-i-requires
member_size-i-requires c = walked_first _ _ _ _ c.loop-i.invariant c.loop-i-test.true

pub overflow_add-i : goal.overflow_add-i
overflow_add-i c = let l = step_inside _ _ _ _ c.loop-i.invariant c.loop-i-test.true _ c.member_size-i.ensures in omega arith

pub loop-i-smaller : goal.loop-i-smaller
loop-i-smaller c = let l = step_inside _ _ _ _ c.loop-i.invariant c.loop-i-test.true _ c.member_size-i.ensures in omega arith

pub loop-i-preserved : goal.loop-i-preserved
loop-i-preserved c = not_here _ _ _ _ c.loop-i.invariant c.loop-i-test.true _ c.has_byte.ensures c.if-has_byte.false _ c.member_size-i.ensures

pub returns : goal.returns
returns c = not_found _ _ _ _ c.loop-i.invariant c.loop-i-test.false

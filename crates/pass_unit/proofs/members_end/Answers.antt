use native.Mathlib.Omega.{arith}
use Rattle.pass_unit.proofs.ItemLaws.{walked_inside, walked_first, step_inside, members_on, members_ended}
use Rattle.pass_unit.proofs.members_end.Goals as goal

pub bounds-items-i : goal.bounds-items-i
bounds-items-i c = let l = walked_inside _ _ _ _ c.loop-i.invariant in omega arith

pub member_size-i-requires : goal.member_size-i-requires
member_size-i-requires c = walked_first _ _ _ _ c.loop-i.invariant c.loop-i-test.true

pub overflow_add-i : goal.overflow_add-i
overflow_add-i c = let l = step_inside _ _ _ _ c.loop-i.invariant c.loop-i-test.true _ c.member_size-i.ensures in omega arith

pub loop-i-smaller : goal.loop-i-smaller
loop-i-smaller c = let l = step_inside _ _ _ _ c.loop-i.invariant c.loop-i-test.true _ c.member_size-i.ensures in omega arith

pub loop-i-preserved : goal.loop-i-preserved
loop-i-preserved c = members_on _ _ _ c.loop-i.invariant c.loop-i-test.true _ c.member_size-i.ensures

pub returns : goal.returns
returns c = members_ended _ _ _ c.loop-i.invariant c.loop-i-test.false

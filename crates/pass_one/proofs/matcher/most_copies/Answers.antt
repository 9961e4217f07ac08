use mathlib.Core.Path.{sym, ◌∙◌}
use native.Mathlib.Omega.{arith}
use borrow.Author.Tests.{eqb-true}
use Rattle.pass_unit.proofs.ItemLaws.{unit_inside}
use Rattle.pass_one.proofs.RowLaws.{count_start, step_inside, count_step, count_stop, count_marked}
use Rattle.pass_one.proofs.matcher.most_copies.Goals as goal

pub loop-element-init : goal.loop-element-init
loop-element-init c = count_start _ _ _ _ _ _ _ _ _ c.requires

pub overflow_add-r : goal.overflow_add-r
overflow_add-r c = let l = step_inside _ _ _ _ _ _ _ _ _ c.requires _ _ c.loop-element.invariant _ c.copy_at.ensures c.loop-element-test.true in let s = c.requires.given.short in omega arith

pub is_marked-requires : goal.is_marked-requires
is_marked-requires c = let l = step_inside _ _ _ _ _ _ _ _ _ c.requires _ _ c.loop-element.invariant _ c.copy_at.ensures c.loop-element-test.true in let s = c.requires.given.short in let i = unit_inside _ _ _ c.requires.unit in let f = c.requires.given.fits in let n = c.requires.size in omega arith

pub returns-then-is_marked : goal.returns-then-is_marked
returns-then-is_marked c = count_marked _ _ _ _ _ _ _ _ _ c.requires _ _ c.loop-element.invariant _ c.copy_at.ensures c.loop-element-test.true (eqb-true _ _ (sym c.is_marked.ensures ∙ c.if-is_marked.true))

pub loop-element-smaller : goal.loop-element-smaller
loop-element-smaller c = let l = step_inside _ _ _ _ _ _ _ _ _ c.requires _ _ c.loop-element.invariant _ c.copy_at.ensures c.loop-element-test.true in let s = c.requires.some in omega arith

pub loop-element-preserved : goal.loop-element-preserved
loop-element-preserved c = count_step _ _ _ _ _ _ _ _ _ c.requires _ _ c.loop-element.invariant _ c.copy_at.ensures c.loop-element-test.true

pub returns : goal.returns
returns c = count_stop _ _ _ _ _ _ _ _ _ c.requires _ _ c.loop-element.invariant _ c.copy_at.ensures c.loop-element-test.false

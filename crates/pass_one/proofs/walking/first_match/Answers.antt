use native.Mathlib.Omega.{arith}
use Rattle.pass_one.proofs.FindLaws.{ready_trying}
use Rattle.pass_one.proofs.GoingLaws.{ready_here, search_past, search_on, found_first}
use Rattle.pass_one.proofs.walking.first_match.Goals as goal

pub loop-p-preserved-then-differs : goal.loop-p-preserved-then-differs
loop-p-preserved-then-differs c = (search_past _ _ _ _ _ _ c.requires _ _ _ c.loop-p.invariant.0 (let l = c.last_place-top.ensures.inside in omega arith) _ c.differs.ensures c.if-differs.true, let l = c.last_place-top.ensures.inside in omega arith)

pub elements-requires : goal.elements-requires
elements-requires c = ready_trying _ _ _ _ _ _ _ (ready_here _ _ _ _ _ _ c.requires _ _ _ c.loop-p.invariant.0 (let l = c.last_place-top.ensures.inside in omega arith))

pub returns-in-Some : goal.returns-in-Some
returns-in-Some c = found_first _ _ _ _ _ _ c.requires _ _ _ c.loop-p.invariant.0 (let l = c.last_place-top.ensures.inside in omega arith) _ _ c.elements.auto.marks c.elements.auto.ends _ c.elements.ensures _ c.in-Some.is

pub loop-p-preserved : goal.loop-p-preserved
loop-p-preserved c = (search_on _ _ _ _ _ _ c.requires _ _ _ c.loop-p.invariant.0 (let l = c.last_place-top.ensures.inside in omega arith) _ _ c.elements.auto.marks c.elements.auto.ends _ c.elements.ensures c.in_default.is, let l = c.last_place-top.ensures.inside in omega arith)

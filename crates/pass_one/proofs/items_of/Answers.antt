use native.Mathlib.Omega.{arith}
use Rattle.pass_replace.proofs.Parts.{slot_long, parts_short}
use Rattle.pass_one.proofs.SlotLaws.{items_are, items_few}
use Rattle.pass_one.proofs.items_of.Goals as goal

pub two_at-pattern-requires : goal.two_at-pattern-requires
two_at-pattern-requires c = omega (arith, slot_long _ c.requires.0 c.requires.1)

pub two_at-requires : goal.two_at-requires
two_at-requires c = omega (arith, slot_long _ c.requires.0 c.requires.1)

pub slice_bounds-result-end : goal.slice_bounds-result-end
slice_bounds-result-end c =
    let a = c.requires in
    omega (arith, slot_long _ a.0 a.1, parts_short _ a.0 a.1, c.two_at-pattern.ensures.0, c.two_at.ensures.0)

pub returns : goal.returns
returns c =
    let a = c.requires in
    let p = c.two_at-pattern.ensures.0 in
    let q = c.two_at.ensures.0 in
    record { pattern = λ m i. items_are _ m i p q; fits = items_few _ a.0 a.1 p q }

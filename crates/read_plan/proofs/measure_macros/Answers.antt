use Rattle.std.proofs.Common.{arith, ap, ◌∙◌, refl}
use Rattle.read_scan.proofs.Laws.{handed_on}
use Rattle.plans.specs.Measure.{larger}
use Rattle.read_plan.proofs.Tallies.{tally_none, some_macro, tally_more, tally_ended, tally_refused, larger_max}
use Rattle.read_plan.proofs.measure_macros.Goals as goal

pub loop-next-init : goal.loop-next-init
loop-next-init c = (omega arith, refl, omega arith, tally_none _ c.requires.0 c.requires.1)

pub returns-in_err-next : goal.returns-in_err-next
returns-in_err-next c =
    let loop = c.loop-next in
    rw (handed_on c.from_residual.ensures)
    (tally_refused c.args.file.now c.requires.0 c.requires.1 loop.at loop.macros loop.elements loop.tags loop.written loop.invariant.3 _ c.in_err-next.ensures)

pub elements_of-requires : goal.elements_of-requires
elements_of-requires c =
    let loop = c.loop-next in
    let m = rw c.in-Some.is at c.in_ok-next.ensures in
    some_macro c.args.file.now c.requires.0 c.requires.1 loop.at loop.macros loop.elements loop.tags loop.written loop.invariant.3 m (c.next_slot.auto.table ∙ loop.invariant.1)

pub tags_of-requires : goal.tags_of-requires
tags_of-requires c =
    let loop = c.loop-next in
    let m = rw c.in-Some.is at c.in_ok-next.ensures in
    some_macro c.args.file.now c.requires.0 c.requires.1 loop.at loop.macros loop.elements loop.tags loop.written loop.invariant.3 m (c.next_slot.auto.table ∙ loop.invariant.1)

pub write_on-written-requires : goal.write_on-written-requires
write_on-written-requires c =
    let loop = c.loop-next in
    let m = rw c.in-Some.is at c.in_ok-next.ensures in
    let t = loop.invariant.3 in
    ((t.macros, t.written), some_macro c.args.file.now c.requires.0 c.requires.1 loop.at loop.macros loop.elements loop.tags loop.written t m (c.next_slot.auto.table ∙ loop.invariant.1))

pub loop-next-preserved : goal.loop-next-preserved
loop-next-preserved c =
    let loop = c.loop-next in
    let m = rw c.in-Some.is at c.in_ok-next.ensures in
    let i = c.next_slot.auto.table ∙ loop.invariant.1 in
    let e = c.max-elements.ensures ∙ (larger_max loop.elements _ ∙ ap (larger loop.elements) c.elements_of.ensures) in
    let t = c.max-tags.ensures ∙ (larger_max loop.tags _ ∙ ap (larger loop.tags) c.tags_of.ensures) in
    (m.reached, i, omega (arith, m.few), tally_more c.args.file.now c.requires.0 c.requires.1 loop.at loop.macros loop.elements loop.tags loop.written loop.invariant.3 m i e t c.write_on-written.ensures)

pub returns : goal.returns
returns c =
    let loop = c.loop-next in
    tally_ended c.args.file.now c.requires.0 c.requires.1 loop.at loop.macros loop.elements loop.tags loop.written loop.invariant.3 (rw c.in_default.is at c.in_ok-next.ensures)

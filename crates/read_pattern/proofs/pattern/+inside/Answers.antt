use mathlib.Core.Path.{refl}
use native.Mathlib.Omega.{arith}
use Rattle.read_scan.proofs.Laws.{handed_on, reached_behind}
use Rattle.read_pattern.proofs.Insides.{grown_none, reads_fault, reads_closed, reads_quote, reads_full, reads_no_piece, grown_element, inner_ends, grown_closed, reads_unclosed, reads_inner}
use Rattle.read_pattern.proofs.pattern.+inside.Goals as goal

pub loop-b-init : goal.loop-b-init
loop-b-init t c = let pre = c.requires in (omega arith, pre.0, pre.1, omega arith, refl, grown_none _ _ _)

pub returns-in_err-b : goal.returns-in_err-b
returns-in_err-b t c =
    let loop = c.loop-b.invariant in
    rw (handed_on c.from_residual.ensures) (reads_fault loop.5 loop.0 _ c.in_err-b.ensures)

pub returns-in-125 : goal.returns-in-125
returns-in-125 t c =
    let loop = c.loop-b.invariant in
    reads_closed loop.5 loop.0 c.in_ok-b.ensures c.in-125.is loop.2 loop.3

pub returns-in-39 : goal.returns-in-39
returns-in-39 t c =
    let loop = c.loop-b.invariant in
    reads_quote loop.5 loop.0 c.in_ok-b.ensures c.in-39.is loop.2 loop.3

pub returns-then-far-ge-MOST_TAGS : goal.returns-then-far-ge-MOST_TAGS
returns-then-far-ge-MOST_TAGS t c =
    let loop = c.loop-b.invariant in
    rw c.at.ensures (reads_full loop.5 loop.0 c.in_ok-b.ensures _ c.in-123.is c.if-far-ge-MOST_TAGS.true)

pub returns-in_err-z-in-123 : goal.returns-in_err-z-in-123
returns-in_err-z-in-123 t c =
    let loop = c.loop-b.invariant in
    let tag = c.open_tag-deeper.ensures in
    rw (handed_on c.from_residual-in_err-z-in-123.ensures) (reads_inner loop.5 loop.0 c.in_ok-b.ensures c.in-123.is c.if-far-ge-MOST_TAGS.false tag.1 tag.0 _ c.in_err-z-in-123.ensures)

pub loop-b-preserved-in-Closed : goal.loop-b-preserved-in-Closed
loop-b-preserved-in-Closed t c =
    let loop = c.loop-b.invariant in
    let z = c.in_ok-b.ensures in
    let full = c.if-far-ge-MOST_TAGS.false in
    let tag = c.open_tag-deeper.ensures in
    let inner = rw c.in-Closed.is at c.in_ok-z-in-123.ensures in
    let d = inner_ends loop.5 loop.0 z c.in-123.is full tag.1 tag.0 inner in
    let f = z.found.0 in
    rw c.close_tag-far.ensures.0 (omega (arith, d.further, f, loop.0), reached_behind d.here.stands, d.tagged, omega (arith, d.room, d.further, f, loop.0, loop.3), omega (arith, c.close_tag-far.auto, c.inside.auto, c.open_tag-deeper.auto, loop.4), grown_closed loop.5 loop.0 z c.in-123.is full tag.1 tag.0 inner c.close_tag-far.ensures.1)

pub returns-in-Quote : goal.returns-in-Quote
returns-in-Quote t c =
    let loop = c.loop-b.invariant in
    let tag = c.open_tag-deeper.ensures in
    rw c.at-in-Quote.ensures (reads_unclosed loop.5 loop.0 c.in_ok-b.ensures c.in-123.is c.if-far-ge-MOST_TAGS.false tag.1 tag.0 _ (rw c.in-Quote.is at c.in_ok-z-in-123.ensures))

pub returns-in_err-z-in_default : goal.returns-in_err-z-in_default
returns-in_err-z-in_default t c =
    let loop = c.loop-b.invariant in
    rw (handed_on c.from_residual-in_err-z-in_default.ensures) (reads_no_piece loop.5 loop.0 c.in_ok-b.ensures _ c.in_err-z-in_default.ensures.from)

pub loop-b-preserved : goal.loop-b-preserved
loop-b-preserved t c =
    let loop = c.loop-b.invariant in
    let z = c.in_ok-b.ensures in
    let k = c.in_ok-z-in_default.ensures.from in
    let f = z.found.0 in
    (omega (arith, k.is.further, f, loop.0), k.is.reached, loop.2, omega (arith, k.is.room, k.is.further, f, loop.0, loop.3), omega (arith, c.piece.auto, loop.4), grown_element loop.5 loop.0 z k)

use native.Mathlib.Omega.{arith}
use mathlib.Core.Path.{◌≡◌, refl}
use Rattle.std.specs.Prelude.{Option, Some, None, Err}
use Rattle.std.specs.Option.{ok_or}
use Rattle.read_scan.proofs.Laws.{handed_on}
use Rattle.read_class.proofs.Classes.{membered_none, met_reached, classing_bad, membered_more, classing_empty, classing_end}
use Rattle.read_class.proofs.class.member_items.Goals as goal

-- what was missing, and the error in its place
none_of : {T E : Type 0} (r : Option T) (f d : E) → Err f ≡ ok_or r d → (r ≡ None) × (f ≡ d)
none_of (Some x) f d e = cc e
none_of None f d e = (refl, cc e)

pub loop-c-init : goal.loop-c-init
loop-c-init c = (omega arith, (omega arith, omega arith, omega arith), refl, membered_none _ _ _ _ _)

pub returns-then-end-from : goal.returns-then-end-from
returns-then-end-from c =
    let loop = c.loop-c in
    let last = c.put_last-end.ensures in
    rw c.at.ensures (classing_empty loop.invariant.3 loop.invariant.0 c.in_ok-c.ensures c.if-raw.true c.if-c-eq93.true last.0 last.1 _ c.if-end-from.true)

pub returns-then-c-eq93 : goal.returns-then-c-eq93
returns-then-c-eq93 c =
    let loop = c.loop-c in
    let last = c.put_last-end.ensures in
    classing_end loop.invariant.3 loop.invariant.0 c.in_ok-c.ensures c.if-raw.true c.if-c-eq93.true last.0 last.1 c.if-end-from.false c.put_item.ensures

pub returns-in_err-last : goal.returns-in_err-last
returns-in_err-last c =
    let loop = c.loop-c in
    let none = none_of c.take_member.result _ _ c.in_err-last.ensures.value in
    rw (handed_on c.from_residual-in_err-last.ensures, none.1, c.at-in-loop-c.ensures) (classing_bad loop.invariant.3 loop.invariant.0 c.in_ok-c.ensures _ (rw none.0 at c.take_member.ensures))

pub loop-c-preserved : goal.loop-c-preserved
loop-c-preserved c =
    let loop = c.loop-c in
    let met = c.in_ok-c.ensures in
    (omega (arith, met.further, loop.invariant.0), met_reached loop.invariant.3 loop.invariant.0 met, omega (arith, c.take_member.auto, loop.invariant.2), membered_more loop.invariant.3 loop.invariant.0 met (rw c.in_ok-last.ensures.ok_part at c.take_member.ensures))

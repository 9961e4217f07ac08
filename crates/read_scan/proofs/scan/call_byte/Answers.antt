use native.Mathlib.Omega.{arith}
use mathlib.Core.Path.{refl}
use Rattle.read_scan.proofs.Laws.{handed_on, calls_fault, in_call, calls_byte_lem, calls_space, reached_behind}
use Rattle.read_scan.proofs.scan.call_byte.Goals as goal

pub returns-in_err-b : goal.returns-in_err-b
returns-in_err-b c =
    let loop = c.loop-b in
    rw (handed_on c.from_residual.ensures) (calls_fault loop.invariant.2 loop.invariant.0 c.in_err-b.ensures refl)

pub returns-then-b-ne32 : goal.returns-then-b-ne32
returns-then-b-ne32 c =
    let loop = c.loop-b in
    calls_byte_lem loop.invariant.2 loop.invariant.0 c.next_byte.ensures c.in_ok-b.was c.if-b-ne32.true

pub loop-b-preserved : goal.loop-b-preserved
loop-b-preserved c =
    let loop = c.loop-b in
    let next-byte = c.next_byte in
    let h = (in_call loop.invariant.2 loop.invariant.0 next-byte.ensures c.in_ok-b.was).found in
    let x = h.1.stands in
    (omega (arith, h.0, loop.invariant.0), reached_behind x, calls_space loop.invariant.2 loop.invariant.0 next-byte.ensures c.in_ok-b.was c.if-b-ne32.false)

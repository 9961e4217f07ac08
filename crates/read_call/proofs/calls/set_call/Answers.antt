use mathlib.Core.Path.{refl}
use Rattle.form_bytes.specs.Fours.{four, with_number}
use Rattle.form_items.proofs.Writing.{wrote_of}
use Rattle.read_scan.proofs.Laws.{handed_on}
use Rattle.read_call.proofs.Ending.{set_none, set_byte, set_refused, set_stored}
use Prim.Native.Nat.{◌+◌, ◌≤◌}
use lib.ListN.{length}
use native.Mathlib.Omega.{arith}
use Rattle.read_call.proofs.calls.set_call.Goals as goal

pub returns-in_err-number : goal.returns-in_err-number
returns-in_err-number c =
    let args = c.args in
    rw (handed_on c.from_residual.ensures) (set_none args.s.now args.a args.at args.out.now args.out.now args.n args.code args.i args.top c.in_err-number.ensures refl)

pub returns-then-unclosed : goal.returns-then-unclosed
returns-then-unclosed c =
    let args = c.args in
    rw c.at.ensures
    (set_refused args.s.now args.a args.at args.out.now args.out.now args.n args.code args.i args.top c.digits.ensures c.in_ok-number.was c.unclosed.ensures c.if-unclosed.true c.wrong_byte.result c.wrong_byte.ensures)

pub returns : goal.returns
unfolding four with_number
returns c =
    let args = c.args in
    let pre = c.requires in
    let y = set_byte args.s.now args.a args.at args.out.now args.out.now args.n args.code args.i args.top c.digits.ensures c.in_ok-number.was in
    let room : args.n + 2 + 4 ≤ length c.put_item.new.out = omega (arith, y.0, y.1.stands.counted, y.1.stands.behind, pre.1, c.put_item.auto.out) in
    set_stored args.s.now args.a args.at args.out.now c.put_number.new.out args.n args.code args.i args.top c.digits.ensures c.in_ok-number.was c.unclosed.ensures c.if-unclosed.false
    c.unwrap.ensures pre.2 c.put_item.ensures (wrote_of (four _) (args.n + 2) room c.put_number.ensures)

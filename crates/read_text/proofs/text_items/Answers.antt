use mathlib.Core.Path.{refl}
use native.Mathlib.Omega.{arith}
use Rattle.read_text.proofs.Texts.{store_none, store_wrong, store_put}
use Rattle.read_text.proofs.text_items.Goals as goal

pub returns-in-Err : goal.returns-in-Err
returns-in-Err c =
    let args = c.args in
    store_none args.s.now args.a args.at args.out.now c.put_text.new.out args.n args.i args.m c.put_text.ensures c.in_ok-q.was c.in-Err.ensures refl

pub returns-then-b-ne41 : goal.returns-then-b-ne41
returns-then-b-ne41 c =
    let args = c.args in
    rw c.at.ensures
    (store_wrong args.s.now args.a args.at args.out.now c.put_text.new.out args.n args.i args.m c.put_text.ensures c.in_ok-q.was c.call_byte.ensures c.in-Ok.is c.wrong_byte.result c.if-b-ne41.true c.wrong_byte.ensures)

pub returns : goal.returns
returns c =
    let args = c.args in
    store_put args.s.now args.a args.at args.out.now c.put_text.new.out args.n args.i args.m c.put_text.ensures c.in_ok-q.was c.call_byte.ensures c.in-Ok.is c.if-b-ne41.false (omega (arith, c.requires.1)) c.put_text.auto.out c.put_store-end.ensures

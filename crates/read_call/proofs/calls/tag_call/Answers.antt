use Rattle.read_call.proofs.Naming.{code_most}
use Rattle.read_call.proofs.Ending.{tag_letter, tag_refused, tag_done}
use native.Mathlib.Omega.{arith}
use Rattle.read_call.proofs.calls.tag_call.Goals as goal

pub returns-then-unclosed : goal.returns-then-unclosed
returns-then-unclosed c =
    let args = c.args in
    rw c.at.ensures
    (tag_refused args.s.now args.a args.at args.out.now args.out.now args.n args.v args.tags c.tag_name.ensures c.in_ok-named.was c.unclosed.ensures c.if-unclosed.true c.wrong_byte.result c.wrong_byte.ensures)

pub overflow_add-named : goal.overflow_add-named
overflow_add-named c =
    let args = c.args in
    let t = tag_letter args.s.now args.a args.at args.out.now args.out.now args.n args.v args.tags c.tag_name.ensures c.in_ok-named.was in
    record { fits = omega (arith, t.code, code_most t.move) }

pub returns : goal.returns
returns c =
    let args = c.args in
    tag_done args.s.now args.a args.at args.out.now c.put_item-2.new.out args.n args.v args.tags c.tag_name.ensures c.in_ok-named.was c.unclosed.ensures c.if-unclosed.false c.requires.4 c.put_item.ensures c.put_item-2.ensures

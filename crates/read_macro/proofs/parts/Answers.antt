use native.Mathlib.Omega.{arith}
use Rattle.read_macro.proofs.Joining.{parts_late, parts_made}
use Rattle.read_macro.proofs.parts.Goals as goal

pub returns-then-q-a-ge-MOST_MACRO_BYTES : goal.returns-then-q-a-ge-MOST_MACRO_BYTES
returns-then-q-a-ge-MOST_MACRO_BYTES c =
    rw c.at.ensures
    (parts_late c.args.s.now c.args.a c.args.at c.args.out.now c.args.b c.args.n c.args.i c.args.tags c.replacement.new.out c.in_ok-v.ensures.from c.commands.new.out c.in_ok-q.ensures.from
    c.if-q-a-ge-MOST_MACRO_BYTES.true)

pub returns : goal.returns
returns c =
    parts_made c.args.s.now c.args.a c.args.at c.args.out.now c.args.b c.args.n c.args.i c.args.tags c.replacement.new.out c.in_ok-v.ensures.from c.commands.new.out c.in_ok-q.ensures.from
    c.symbol_code.ensures (omega (arith, c.if-q-a-ge-MOST_MACRO_BYTES.false))

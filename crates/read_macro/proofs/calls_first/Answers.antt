use Rattle.read_scan.proofs.Laws.{handed_on}
use Rattle.read_macro.proofs.Joining.{first_quote, first_fault, first_calls}
use Rattle.read_macro.proofs.calls_first.Goals as goal

pub returns-then-b-eq39 : goal.returns-then-b-eq39
returns-then-b-eq39 c = first_quote c.args.s.now c.args.a c.args.at c.args.out.now c.if-b-eq39.true c.requires.1

pub returns-in_err-q : goal.returns-in_err-q
returns-in_err-q c =
    rw (handed_on c.from_residual.ensures) (first_fault c.args.s.now c.args.a c.args.at c.args.out.now c.if-b-eq39.false c.calls_before.new.out _ c.in_err-q.ensures.from)

pub returns : goal.returns
returns c = first_calls c.args.s.now c.args.a c.args.at c.args.out.now c.if-b-eq39.false c.calls_before.new.out c.in_ok-q.ensures.from

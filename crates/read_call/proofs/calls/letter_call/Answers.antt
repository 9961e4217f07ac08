use mathlib.Core.Path.{refl}
use Rattle.read_scan.proofs.Laws.{handed_on}
use Rattle.read_call.specs.Call.{site_is, mark_of}
use Rattle.read_call.proofs.Marks.{letter_none, letter_begun}
use Rattle.read_call.proofs.calls.letter_call.Goals as goal

pub returns-in_err-b : goal.returns-in_err-b
returns-in_err-b c =
    let args = c.args in
    rw (handed_on c.from_residual.ensures) (letter_none args.s.now args.a args.at args.out.now args.out.now args.n (mark_of args.counter) (site_is args.site) c.in_err-b.ensures refl)

pub returns : goal.returns
returns c =
    let args = c.args in
    letter_begun args.s.now args.a args.at args.out.now c.named_call.new.out args.n (mark_of args.counter) (site_is args.site) c.call_byte.ensures c.in_ok-b.was c.named_call.result c.named_call.ensures

use Rattle.read_scan.proofs.Laws.{handed_on}
use Rattle.read_macro.proofs.Joining.{macro_late, macro_calls_fault, macro_pattern_fault, macro_front_fault, macro_whole}
use Rattle.read_macro.proofs.one_macro.Goals as goal

pub returns-then-at-a-gt-MOST_MACRO_BYTES : goal.returns-then-at-a-gt-MOST_MACRO_BYTES
returns-then-at-a-gt-MOST_MACRO_BYTES c =
    rw c.at.ensures (macro_late c.args.s.now c.args.a c.args.at c.args.out.now c.if-at-a-gt-MOST_MACRO_BYTES.true c.requires.1)

pub returns-in_err-v : goal.returns-in_err-v
returns-in_err-v c =
    rw (handed_on c.from_residual.ensures)
    (macro_calls_fault c.args.s.now c.args.a c.args.at c.if-at-a-gt-MOST_MACRO_BYTES.false c.args.out.now c.calls_first.new.out _ c.in_err-v.ensures)

pub returns-in_err-pattern : goal.returns-in_err-pattern
returns-in_err-pattern c =
    rw (handed_on c.from_residual-in_err-pattern.ensures)
    (macro_pattern_fault c.args.s.now c.args.a c.args.at c.if-at-a-gt-MOST_MACRO_BYTES.false c.args.out.now c.calls_first.new.out c.in_ok-v.ensures c.whole.new.out _ c.in_err-pattern.ensures.begins)

pub returns-in_err-b : goal.returns-in_err-b
returns-in_err-b c =
    rw (handed_on c.from_residual-in_err-b.ensures)
    (macro_front_fault c.args.s.now c.args.a c.args.at c.if-at-a-gt-MOST_MACRO_BYTES.false c.args.out.now c.calls_first.new.out c.in_ok-v.ensures c.whole.new.out c.in_ok-pattern.ensures.begins _
    c.in_err-b.ensures)

pub returns : goal.returns
returns c =
    macro_whole c.args.s.now c.args.a c.args.at c.if-at-a-gt-MOST_MACRO_BYTES.false c.args.out.now c.calls_first.new.out c.in_ok-v.ensures c.whole.new.out c.in_ok-pattern.ensures.begins
    c.in_ok-b.b c.in_ok-b.z c.in_ok-b.ensures c.requires.0 c.parts.new.out c.parts.result c.parts.ensures

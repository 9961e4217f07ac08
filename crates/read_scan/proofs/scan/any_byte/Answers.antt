use mathlib.Core.Bool.{false}
use native.Mathlib.Omega.{arith}
use Rattle.read_scan.proofs.Bytes.{stays_late, stays_end, stays_here}
use Rattle.read_scan.proofs.Laws.{run_late, run_end}
use borrow.Author.Rules.{rules}
use Rattle.read_scan.proofs.scan.any_byte.Goals as goal

pub returns-then-at-a-gt-MOST_MACRO_BYTES : goal.returns-then-at-a-gt-MOST_MACRO_BYTES
returns-then-at-a-gt-MOST_MACRO_BYTES c =
    let args = c.args in
    rw c.at.ensures
    (record {
      exact = stays_late args.s.now args.a args.at (omega arith) (omega arith) c.if-at-a-gt-MOST_MACRO_BYTES.true;
      found = omega arith;
      answer = λ st pr. run_late args.s.now args.a pr false args.at st c.if-at-a-gt-MOST_MACRO_BYTES.true;
    })

pub returns-then-s-at : goal.returns-then-s-at
returns-then-s-at c =
    let args = c.args in
    rw c.at-then-s-at.ensures
    (record {
      exact = stays_end args.s.now args.a args.at c.if-s-at.true (omega arith) (omega arith);
      found = omega arith;
      answer = λ st pr. run_end args.s.now args.a pr false args.at st c.if-s-at.true (omega arith);
    })

pub returns : goal.returns
returns c =
    record {
      exact = stays_here _ _ _ (omega arith) (omega arith) (omega arith);
      found = search rules;
      answer = search rules;
    }

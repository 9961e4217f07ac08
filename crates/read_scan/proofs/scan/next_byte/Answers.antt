use mathlib.Core.Path.{◌≡◌, refl, ◌∙◌}
use mathlib.Core.Bool.{true, false}
use native.Mathlib.Omega.{arith}
use lib.ListN.{get_or}
use Rattle.read_scan.specs.Scan.{At}
use Rattle.read_scan.specs.Bytes.{seen}
use Rattle.read_scan.proofs.Bytes.{seen_in, seen_start, seen_slash, seen_within, next_late, next_end_lem, next_here}
use Rattle.read_scan.proofs.Laws.{run_late, run_end, at_slash, at_within}
use lib.ListN.{length}
use Rattle.read_scan.proofs.scan.next_byte.Goals as goal
use Rattle.read_scan.proofs.scan.next_byte.Goals.{then-b-eq47, else-b-eq47+else-not-skip}

pub loop-at-init : goal.loop-at-init
loop-at-init c = (omega arith, (omega arith, omega arith, omega arith), λ st pr f. refl, seen_start _ _ _)

pub returns-then-at-a-gt-MOST_MACRO_BYTES : goal.returns-then-at-a-gt-MOST_MACRO_BYTES
returns-then-at-a-gt-MOST_MACRO_BYTES c =
    let loop = c.loop-at in
    let args = c.args in
    rw c.at.ensures
    (record {
      exact = next_late args.s.now args.a args.first loop.at loop.skip loop.invariant.3 loop.invariant.1 c.if-at-a-gt-MOST_MACRO_BYTES.true;
      found = omega arith;
      answer = λ st pr f. loop.invariant.2 st pr f ∙ run_late args.s.now args.a pr loop.skip loop.at st c.if-at-a-gt-MOST_MACRO_BYTES.true;
    })

pub returns-then-not-skip : goal.returns-then-not-skip
returns-then-not-skip c =
    let args = c.args in
    let loop = c.loop-at in
    let p : At args.s.now args.a loop.at (get_or args.s.now loop.at 0) = record { behind = omega arith; there = c.loop-at-test.true; counted = omega arith; byte = refl } in
    let k : loop.skip ≡ false = c.if-not-skip.true in
    let g : seen args.s.now args.a args.first ≡ seen_in false args.s.now args.a loop.at = rw k at loop.invariant.3 in
    record {
      exact = next_here args.first g p c.if-b-eq47.false;
      found = (omega arith, record { stands = p; plain = c.if-b-eq47.false });
      answer = λ st pr f. rw k at (loop.invariant.2 st pr f);
    }

pub loop-at-preserved : goal.loop-at-preserved
loop-at-preserved c =
    let args = c.args in
    let loop = c.loop-at in
    let p : At args.s.now args.a loop.at (get_or args.s.now loop.at 0) = record { behind = omega arith; there = c.loop-at-test.true; counted = omega arith; byte = refl } in
    elim c.if-b-eq47.branch [
      | then-b-eq47 w ↦ rw w.skip-is (omega arith, (omega arith, omega arith, omega arith), λ st pr f. loop.invariant.2 st pr f ∙ at_slash p pr loop.skip st f w.if-b-eq47.true, loop.invariant.3 ∙ seen_slash p loop.skip w.if-b-eq47.true)
      | else-b-eq47+else-not-skip w ↦
          let k : loop.skip ≡ true = w.if-not-skip.false in
          rw w.skip-is (omega arith, (omega arith, omega arith, omega arith), λ st pr f. loop.invariant.2 st pr f ∙ rw k (at_within p pr st w.if-b-eq47.false), loop.invariant.3 ∙ rw k (seen_within p w.if-b-eq47.false))
    ]

pub returns-then-end-a-gt-MOST_MACRO_BYTES : goal.returns-then-end-a-gt-MOST_MACRO_BYTES
returns-then-end-a-gt-MOST_MACRO_BYTES c =
    let loop = c.loop-at in
    let args = c.args in
    let e : loop.at ≡ length args.s.now = omega arith in
    rw c.at-then-end-a-gt-MOST_MACRO_BYTES.ensures
    (record {
      exact = next_late args.s.now args.a args.first (length args.s.now) loop.skip (rw e at loop.invariant.3) (rw e at loop.invariant.1) c.if-end-a-gt-MOST_MACRO_BYTES.true;
      found = omega arith;
      answer = λ st pr f. rw e at (loop.invariant.2 st pr f) ∙ run_late args.s.now args.a pr loop.skip (length args.s.now) st c.if-end-a-gt-MOST_MACRO_BYTES.true;
    })

pub returns : goal.returns
returns c =
    let loop = c.loop-at in
    let args = c.args in
    let e : loop.at ≡ length args.s.now = omega arith in
    rw c.at-2.ensures
    (record {
      exact = next_end_lem args.s.now args.a args.first (length args.s.now) loop.skip (rw e at loop.invariant.3) (rw e at loop.invariant.1) (omega arith) c.if-end-a-gt-MOST_MACRO_BYTES.false;
      found = omega arith;
      answer = λ st pr f. rw e at (loop.invariant.2 st pr f) ∙ run_end args.s.now args.a pr loop.skip (length args.s.now) st (omega arith) c.if-end-a-gt-MOST_MACRO_BYTES.false;
    })

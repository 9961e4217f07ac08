use lib.ListN.{length}
use mathlib.Core.Path.{sym, ◌∙◌}
use native.Mathlib.Omega.{arith}
use borrow.Author.Tests.{eqb-true, eqb-false}
use Rattle.form_state.proofs.Held.{is_long_lem}
use Rattle.pass_one.proofs.CallLaws.{pattern_letters, renew_none, renew_same, renew_all}
use Rattle.pass_one.proofs.keeping.renew.Goals as goal
use Rattle.pass_one.proofs.keeping.renew.Goals.{then-is_empty-via-then-is_empty, then-is_empty-via-else-is_empty+then-same_calls}

pub same_calls-requires : goal.same_calls-requires
same_calls-requires c =
    let n = eqb-false (length c.args.seen.now) 0 (sym c.if-is_empty.ensures) in
    (pattern_letters _ c.requires.pattern.0 c.requires.pattern.1, c.requires.fits, c.requires.old (omega arith), c.requires.state)

pub returns-then-is_empty : goal.returns-then-is_empty
returns-then-is_empty c =
    elim c.then-is_empty.branch [
      | then-is_empty-via-then-is_empty w ↦
          let n = eqb-true (length c.args.seen.now) 0 (sym c.is_empty.ensures ∙ w.if-is_empty.true) in
          renew_none _ _ c.requires.pattern.0 c.requires.pattern.1 c.requires.state c.args.seen.now c.args.marks.now (omega arith)
      | then-is_empty-via-else-is_empty+then-same_calls w ↦
          let n = eqb-false (length c.args.seen.now) 0 (sym c.is_empty.ensures ∙ w.if-is_empty.false) in
          renew_same _ _ c.requires.pattern.0 c.requires.pattern.1 c.requires.state c.args.seen.now c.args.marks.now (omega arith) (w.same_calls.ensures w.if-same_calls.true)
    ]

pub copy_state-requires : goal.copy_state-requires
copy_state-requires c =
    let n = eqb-false (length c.args.seen.now) 0 (sym c.if-is_empty.ensures) in
    is_long_lem _ c.requires.state ∙ sym (is_long_lem _ (c.requires.old (omega arith)))

pub returns : goal.returns
returns c =
    let n = eqb-false (length c.args.seen.now) 0 (sym c.if-is_empty.ensures) in
    renew_all _ _ c.requires.pattern.0 c.requires.pattern.1 c.requires.state c.args.seen.now _ c.args.marks.now _ (omega arith) c.copy_state.auto.seen c.copy_state.ensures c.clear.ensures

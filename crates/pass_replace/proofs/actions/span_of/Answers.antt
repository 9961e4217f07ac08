use native.Mathlib.Omega.{arith}
use Rattle.form_table.proofs.Actions.{some_size, size_tag}
use Rattle.pass_replace.proofs.Braces.{spans_by, spans_nothing}
use Rattle.pass_replace.proofs.Acting.{tagged_inserted, tagged_stored, tagged_none}
use Rattle.pass_replace.proofs.actions.span_of.Goals as goal

pub bounds-t-1 : goal.bounds-t-1
bounds-t-1 c = omega (arith, some_size c.args.t.now, c.requires.1.held)

pub returns-in-41 : goal.returns-in-41
returns-in-41 c = spans_by (λ l. tagged_inserted l c.args.pat.now c.args.ends.now c.args.t.now c.in-41.is) c.tag_of.ensures

pub bounds-t-3 : goal.bounds-t-3
bounds-t-3 c = omega (arith, size_tag c.args.t.now (omega arith) (omega arith), c.requires.1.held)

pub returns-in-64-to-71 : goal.returns-in-64-to-71
returns-in-64-to-71 c = spans_by (λ l. tagged_stored l c.args.pat.now c.args.ends.now c.args.t.now (omega arith) (omega arith)) c.tag_of-in-64-to-71.ensures

pub returns-in_default : goal.returns-in_default
returns-in_default c = spans_nothing (λ l. tagged_none l c.args.pat.now c.args.ends.now c.args.t.now (λ e. omega arith) (λ h k. omega arith))

pub returns-in_default-2 : goal.returns-in_default-2
returns-in_default-2 c = spans_nothing (λ l. tagged_none l c.args.pat.now c.args.ends.now c.args.t.now (λ e. omega arith) (λ h k. omega arith))

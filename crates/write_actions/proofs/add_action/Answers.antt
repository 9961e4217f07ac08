use Rattle.form_table.proofs.Actions.{some_size}
use Rattle.write_put.proofs.Putting.{added_as}
use Rattle.write_actions.specs.Items.{action_text}
use Rattle.macros.specs.Macro.{pick}
use borrow.Author.Tests.{lt-ltb, le-ltb}
use native.Mathlib.Omega.{arith}
use Rattle.write_actions.proofs.add_action.Goals as goal

pub bounds-t-0 : goal.bounds-t-0
bounds-t-0 g c = omega (arith, some_size c.args.t.now)

pub bounds-t-1 : goal.bounds-t-1
bounds-t-1 g c = omega (arith, some_size c.args.t.now)

pub add-requires : goal.add-requires
add-requires g c = g.met.S.Sink.laws.kept c.requires.0 c.add-m.ensures

pub returns-then-code-lt64 : goal.returns-then-code-lt64
unfolding action_text pick
returns-then-code-lt64 g c = simp (lt-ltb _ _ c.if-code-lt64.true) (g.met.S.Sink.laws.also (added_as g.met.S.Sink.laws c.opening.ensures c.add-m.ensures) (added_as g.met.S.Sink.laws c.ending.ensures c.add.ensures))

pub add_call-requires : goal.add_call-requires
add_call-requires g c = (g.met.S.Sink.laws.kept c.requires.0 c.add-m.ensures, c.if-code-lt64.false, c.requires.1)

pub returns : goal.returns
unfolding action_text pick
returns g c = simp (le-ltb _ _ c.if-code-lt64.false) (g.met.S.Sink.laws.also (added_as g.met.S.Sink.laws c.opening.ensures c.add-m.ensures) c.add_call.ensures)

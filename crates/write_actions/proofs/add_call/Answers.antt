use Rattle.form_table.proofs.Actions.{some_size, size_call}
use Rattle.write_put.proofs.Putting.{added_as}
use Rattle.write_actions.specs.Items.{call_text}
use native.Mathlib.Omega.{arith}
use Rattle.write_actions.proofs.add_call.Goals as goal

pub bounds-t-0 : goal.bounds-t-0
bounds-t-0 g c = omega (arith, some_size c.args.t.now)

pub bounds-t-1 : goal.bounds-t-1
bounds-t-1 g c = omega (arith, some_size c.args.t.now)

pub bounds-t-3 : goal.bounds-t-3
bounds-t-3 g c = omega (arith, size_call c.args.t.now c.requires.1)

pub add_middle-b-requires : goal.add_middle-b-requires
add_middle-b-requires g c = (g.met.S.Sink.laws.kept c.requires.0 c.add-a.ensures, c.requires.1, c.requires.2)

pub add-requires : goal.add-requires
add-requires g c = let laws = g.met.S.Sink.laws in laws.kept (laws.kept c.requires.0 c.add-a.ensures) c.add_middle-b.ensures

pub returns : goal.returns
unfolding call_text
returns g c = g.met.S.Sink.laws.also (added_as g.met.S.Sink.laws c.first.ensures c.add-a.ensures) (g.met.S.Sink.laws.also c.add_middle-b.ensures (added_as g.met.S.Sink.laws c.last.ensures c.add.ensures))

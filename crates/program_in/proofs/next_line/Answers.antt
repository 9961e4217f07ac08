use mathlib.Core.Path.{refl, ap, ◌∙◌}
use native.Mathlib.Omega.{arith}
use Rattle.program_in.specs.declared.Reading.{Reading}
use Rattle.program_in.proofs.Lines.{going_on, going_read, line_read, part_room}
use Rattle.program_in.proofs.Lines.Going.{first, later}
use Rattle.program_in.proofs.next_line.Goals as goal

pub loop-init : goal.loop-init
loop-init g c =
    let e = c.between-reading.ensures in
    (refl, refl, rw e c.requires, rw e (omega arith), first refl refl refl refl)

pub one_turn-turn-requires : goal.one_turn-turn-requires
one_turn-turn-requires g c = (c.loop.invariant.2, c.loop.invariant.3)

pub loop-preserved : goal.loop-preserved
loop-preserved g c =
    let turn = c.one_turn-turn in
    let p = going_on c.loop.invariant.4 turn.ensures in
    (turn.auto.block ∙ c.loop.invariant.0, turn.auto.line ∙ c.loop.invariant.1, turn.ensures.within, part_room (ap (λ (r : Reading). r.held) c.between-reading.ensures) p, later turn.result refl c.if-turn.false p)

pub returns-after-loop : goal.returns-after-loop
returns-after-loop g c = going_read c.between-reading.ensures c.loop.invariant.4 (omega (arith, c.loop-test.false))

pub returns-then-turn : goal.returns-then-turn
returns-then-turn g c = line_read c.between-reading.ensures (going_on c.loop.invariant.4 c.one_turn-turn.ensures)

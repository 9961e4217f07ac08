use mathlib.Core.Path.{refl, sym, ◌∙◌}
use native.Mathlib.Omega.{arith}
use Rattle.read_scan.proofs.Laws.{handed_on}
use Rattle.read_command.proofs.Commanding.{lists_none, lists_fault, lists_end, lists_fault_2, lists_on}
use Rattle.read_command.proofs.commands.commands_items.Goals as goal

pub loop-b-init : goal.loop-b-init
loop-b-init c = (omega arith, refl, lists_none _ _ _ _ c.requires.0)

pub returns-in_err-b : goal.returns-in_err-b
returns-in_err-b c =
    let i = c.loop-b.invariant in
    rw (handed_on c.from_residual.ensures) (lists_fault _ _ _ _ _ _ _ _ i.2 i.0 c.in_err-b.ensures)

pub returns-then-b-last : goal.returns-then-b-last
returns-then-b-last c =
    let i = c.loop-b.invariant in
    lists_end _ _ _ _ _ _ _ _ i.2 i.0 c.in_ok-b.ensures c.last_byte-last.ensures c.if-b-last.true

pub command-requires : goal.command-requires
command-requires c =
    let i = c.loop-b.invariant in
    let f = c.in_ok-b.ensures.found in
    let x = f.1.stands in
    (f.1, λ e. c.if-b-last.false (e ∙ sym c.last_byte-last.ensures), omega (arith, i.0, i.1, i.2.room, f.0, x.counted, c.requires.1), c.requires.2)

pub returns-in_err-at : goal.returns-in_err-at
returns-in_err-at c =
    let i = c.loop-b.invariant in
    rw (handed_on c.from_residual-in_err-at.ensures) (lists_fault_2 _ _ _ _ _ _ _ _ i.2 i.0 c.in_ok-b.ensures c.command.new.out _ c.in_err-at.ensures)

pub loop-b-preserved : goal.loop-b-preserved
loop-b-preserved c =
    let i = c.loop-b.invariant in
    let y = c.in_ok-b.ensures in
    let x = c.in_ok-at.ensures in
    (omega (arith, i.0, y.found.0, x.0), c.command.auto.out ∙ i.1, lists_on _ _ _ _ _ _ _ _ i.2 i.0 y x)

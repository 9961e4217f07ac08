use mathlib.Core.Path.{refl}
use native.Mathlib.Omega.{arith}
use Rattle.read_scan.proofs.Laws.{handed_on}
use Rattle.read_text.proofs.Texts.{reading_none, reading_fault, reading_byte, reading_done, reading_fault_2, reading_on}
use Rattle.read_text.proofs.put_text.Goals as goal

pub loop-b-init : goal.loop-b-init
loop-b-init c = reading_none _ _ c.requires.0

pub returns-in_err-b : goal.returns-in_err-b
returns-in_err-b c = rw (handed_on c.from_residual.ensures) (reading_fault c.loop-b.invariant c.in_err-b.ensures refl)

pub returns-then-b-eq58 : goal.returns-then-b-eq58
returns-then-b-eq58 c = reading_done c.loop-b.invariant c.next_byte.ensures c.in_ok-b.was c.if-b-eq58.true

pub returns-in_err-c : goal.returns-in_err-c
returns-in_err-c c = rw (handed_on c.from_residual-in_err-c.ensures) (reading_fault_2 c.loop-b.invariant c.next_byte.ensures c.in_ok-b.was c.in_err-c.ensures refl)

pub loop-b-preserved : goal.loop-b-preserved
loop-b-preserved c =
    let i = c.loop-b.invariant in
    let f = (reading_byte i c.next_byte.ensures c.in_ok-b.was).found in
    let x = f.1.stands in
    reading_on i c.next_byte.ensures c.in_ok-b.was c.text_byte.ensures c.in_ok-c.was (omega (arith, i.kept, i.room, f.0, x.counted, x.behind, c.requires.1))

use Prim.Native.Nat.{ℕ, ◌<◌}
use mathlib.Core.Bool.{false}
use mathlib.Core.Path.{◌≡◌, refl, sym, ◌∙◌}
use native.Mathlib.Omega.{arith}
use lib.ListN.{length-replicate}
use Rattle.program.proofs.Lines.{lines_first, lines_more, lines_done}
use borrow.Author.Rules.{rules}
use borrow.Author.Tests.{not-true, not-false}
use Rattle.program.proofs.each_line.Goals.{then-loop-number-test+then-not-reading, else-loop-number-test}
use Rattle.program.proofs.each_line.Goals as goal

pub next_line-reading-requires : goal.next_line-reading-requires
next_line-reading-requires g c = rw c.start.ensures (omega arith)

pub loop-number-init : goal.loop-number-init
loop-number-init g c = (search rules, search rules, refl, search rules, length-replicate {A = ℕ} 65536 0, λ a l. l, c.requires)

pub slice_bounds-answer_line-end : goal.slice_bounds-answer_line-end
slice_bounds-answer_line-end g c = sym c.loop-number.invariant.4

pub answer_line-used-requires : goal.answer_line-used-requires
answer_line-used-requires g c =
    let inv = c.loop-number.invariant in
    (inv.6, search rules, inv.3, inv.4)

pub loop-number-preserved : goal.loop-number-preserved
loop-number-preserved g c =
    let inv = c.loop-number.invariant in
    let answered = c.answer_line-used in (
      search rules,
      search rules,
      search rules,
      search rules,
      answered.auto.trace ∙ inv.4,
      λ a l. lines_more (inv.5 a l) (not-false _ c.if-not-reading.false) answered.ensures.answered c.next_line-reading-in-loop-number.ensures refl,
      answered.ensures.sound,
    )

pub returns : goal.returns
returns g c =
    let ended : c.loop-number.number < 18446744073709551615 → c.loop-number.reading.begun ≡ false =
    λ h. elim c.loop-number-test.branch [ then-loop-number-test+then-not-reading w ↦ not-true _ w.if-not-reading.true | else-loop-number-test w ↦ absurd (omega (arith, h, w.loop-number-test.false)) ] in
    lines_done (c.loop-number.invariant.5 _ (lines_first refl refl c.start.ensures c.next_line-reading.ensures)) ended

use mathlib.Core.Path.{sym, ◌∙◌}
use native.Mathlib.Omega.{arith}
use Rattle.macros.specs.Macro.{pick}
use Rattle.read_start.proofs.Seeking.{sought_none, sought_on, seek_quote, seek_call, seek_done, seek_skipping}
use Rattle.read_start.proofs.start.next_start.Goals as goal
use Rattle.read_start.proofs.start.next_start.Goals.{then-not-is_over, else-not-is_over}

pub loop-at-init : goal.loop-at-init
loop-at-init c = sought_none _ _ c.requires

pub returns-then-opens_macro : goal.returns-then-opens_macro
returns-then-opens_macro c = seek_quote c.loop-at.invariant c.loop-at-test.true (sym c.opens_macro.ensures ∙ c.if-opens_macro.true)

pub returns-then-opens_call : goal.returns-then-opens_call
returns-then-opens_call c = seek_call c.loop-at.invariant c.loop-at-test.true (sym c.opens_call.ensures ∙ c.if-opens_call.true)

pub loop-at-preserved : goal.loop-at-preserved
unfolding pick
loop-at-preserved c =
    let loop = c.loop-at in
    let test = c.loop-at-test.true in
    let quote = sym c.opens_macro.ensures ∙ c.if-opens_macro.false in
    let first = sym c.opens_call.ensures ∙ c.if-opens_call.false in
    elim c.if-not-is_over.branch [
      | then-not-is_over w ↦ sought_on loop.invariant test quote first (sym w.if-not-is_over.true ∙ c.is_over.ensures) c.skip_behind-skip.ensures w.last-is w.a-is
      | else-not-is_over w ↦ sought_on loop.invariant test quote first (sym w.if-not-is_over.false ∙ c.is_over.ensures) c.skip_behind-skip.ensures w.last-is w.a-is
    ]

pub returns-then-skip : goal.returns-then-skip
returns-then-skip c = rw c.at.ensures (seek_skipping c.loop-at.invariant (omega arith) c.if-skip.true)

pub returns : goal.returns
returns c = seek_done c.loop-at.invariant (omega arith) c.if-skip.false

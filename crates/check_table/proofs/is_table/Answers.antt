use mathlib.Core.Path.{refl, sym, ◌∙◌}
use Rattle.check_table.proofs.SlotLaws.{slots_unused, slots_refused, slots_next, slots_done, checks_length, checks_other}
use native.Mathlib.Omega.{arith}
use Rattle.check_table.proofs.is_table.Goals as goal

pub returns-then-table-ne98304 : goal.returns-then-table-ne98304
returns-then-table-ne98304 c = sym (checks_other _ c.if-table-ne98304.true)

pub loop-k-init : goal.loop-k-init
loop-k-init c = (omega arith, refl)

pub returns-then-table-at-eq0 : goal.returns-then-table-at-eq0
returns-then-table-at-eq0 c = c.all_zero_by_four.ensures ∙ sym (checks_length _ c.if-table-ne98304.false ∙ c.loop-k.invariant.1 ∙ slots_unused _ _ c.loop-k-test.true c.if-table-at-eq0.true)

pub returns-then-not-slot_fits : goal.returns-then-not-slot_fits
returns-then-not-slot_fits c = sym (checks_length _ c.if-table-ne98304.false ∙ c.loop-k.invariant.1 ∙ slots_refused _ _ c.loop-k-test.true c.if-table-at-eq0.false (sym c.slot_fits.ensures ∙ c.if-not-slot_fits.true))

pub loop-k-preserved : goal.loop-k-preserved
loop-k-preserved c = (omega arith, c.loop-k.invariant.1 ∙ slots_next _ _ c.loop-k-test.true c.if-table-at-eq0.false (sym c.slot_fits.ensures ∙ c.if-not-slot_fits.false))

pub returns : goal.returns
returns c = sym (checks_length _ c.if-table-ne98304.false ∙ c.loop-k.invariant.1 ∙ slots_done _ _ c.loop-k.invariant.0 c.loop-k-test.false)

use mathlib.Core.Path.{sym, ◌∙◌}
use Rattle.form_table.specs.Check.{slot_fits}
use Rattle.check_table.proofs.SlotLaws.{slot_long, slot_tail, slot_items}
use Rattle.check_table.proofs.slot_fits.Goals as goal

pub returns-then-not-is_within : goal.returns-then-not-is_within
unfolding slot_fits
returns-then-not-is_within c = rw (sym c.is_within.ensures ∙ c.if-not-is_within.true)

pub returns-then-end-gt1024 : goal.returns-then-end-gt1024
returns-then-end-gt1024 c = sym (slot_long _ _ _ _ _ c.two_at-pattern.ensures.0 c.two_at.ensures.0 c.two_at-2.ensures.0 c.two_at-3.ensures.0 (sym c.is_within.ensures ∙ c.if-not-is_within.false) c.if-end-gt1024.true)

pub returns-then-not-all_zero : goal.returns-then-not-all_zero
returns-then-not-all_zero c = sym (slot_tail _ _ _ _ _ c.two_at-pattern.ensures.0 c.two_at.ensures.0 c.two_at-2.ensures.0 c.two_at-3.ensures.0 (sym c.is_within.ensures ∙ c.if-not-is_within.false) c.if-end-gt1024.false (sym c.all_zero.ensures ∙ c.if-not-all_zero.true))

pub returns : goal.returns
returns c = c.items_fit.ensures ∙ slot_items _ _ _ _ _ c.two_at-pattern.ensures.0 c.two_at.ensures.0 c.two_at-2.ensures.0 c.two_at-3.ensures.0 (sym c.is_within.ensures ∙ c.if-not-is_within.false) c.if-end-gt1024.false (sym c.all_zero.ensures ∙ c.if-not-all_zero.false)

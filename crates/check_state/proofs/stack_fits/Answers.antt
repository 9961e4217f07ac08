use mathlib.Core.Path.{sym, ◌∙◌}
use Rattle.macros.specs.Bounds.{most_entry_bytes}
use Rattle.form_state.proofs.Blocks.{zeros_pass}
use Rattle.check_state.proofs.stack_fits.Goals as goal

pub returns-then-all_zero_by_four : goal.returns-then-all_zero_by_four
returns-then-all_zero_by_four c = sym (zeros_pass most_entry_bytes 20 _ (sym c.all_zero_by_four.ensures ∙ c.if-all_zero_by_four.true))

pub returns : goal.returns
returns c = c.each_fits.ensures

use mathlib.Core.Path.{◌∙◌, sym}
use Rattle.macros.specs.Macro.{pick}
use Rattle.form_table.specs.Walk.{given}
use Rattle.form_table.specs.PatternWalk.{range_step}
use Rattle.check_table.specs.PatternCode.{inside_of, spot_of, next_of}
use Rattle.check_table.proofs.pattern.range_step.Goals as goal

pub returns-then-c-is_range : goal.returns-then-c-is_range
unfolding pick given range_step inside_of spot_of next_of
returns-then-c-is_range c = c.moved.ensures ∙ rw (sym c.is_range.ensures, c.if-c-is_range.true)

pub returns : goal.returns
unfolding given range_step inside_of spot_of next_of
returns c = rw (sym c.is_range.ensures, c.if-c-is_range.false)

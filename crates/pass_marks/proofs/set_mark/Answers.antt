use mathlib.Core.Path.{sym, ◌∙◌}
use native.Mathlib.Omega.{arith}
use Rattle.std.proofs.Common.{rules}
use Rattle.pass_marks.proofs.MarkLaws.{mark_there, mark_fits, mark_set}
use Rattle.pass_marks.proofs.set_mark.Goals as goal

pub returns-then-is_marked : goal.returns-then-is_marked
returns-then-is_marked c = mark_there _ _ _ (sym c.is_marked.ensures ∙ c.if-is_marked.true)

pub overflow_add-marks : goal.overflow_add-marks
overflow_add-marks c = record { fits = let l = mark_fits _ _ _ (search rules) (sym c.is_marked.ensures ∙ c.if-is_marked.false) in omega arith }

pub returns : goal.returns
returns c = mark_set _ _ _ (sym c.is_marked.ensures ∙ c.if-is_marked.false)

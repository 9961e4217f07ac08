use mathlib.Core.Path.{◌∙◌, sym}
use Rattle.check_table.specs.ActionCode.{spot_of, next_of}
use Rattle.check_table.proofs.ActionLaws.{literal_some, literal_none}
use Rattle.check_table.proofs.WalkLaws.{replacement_small}
use native.Mathlib.Omega.{arith}
use Rattle.check_table.proofs.actions.literal_step.Goals as goal

pub returns-then-o-lt1 : goal.returns-then-o-lt1
unfolding next_of
returns-then-o-lt1 c = sym (literal_none _ _ _ c.if-o-lt1.true)

pub overflow_add-n : goal.overflow_add-n
overflow_add-n c = omega (arith, replacement_small _ _ _ c.literal_length.ensures)

pub returns : goal.returns
unfolding spot_of
returns c = c.at.ensures ∙ rw c.literal_length.ensures (sym (literal_some _ _ _ c.if-o-lt1.false (omega arith)))

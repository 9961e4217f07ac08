use mathlib.Core.Path.{◌∙◌, sym}
use Rattle.check_table.specs.ActionCode.{spot_of, next_of}
use Rattle.check_table.proofs.ActionLaws.{text_zero, text_odd, text_last, text_short, text_two}
use Rattle.check_table.proofs.WalkLaws.{text_small}
use native.Mathlib.Omega.{arith}
use Rattle.check_table.proofs.actions.text_step.Goals as goal

pub returns-then-c-lt1 : goal.returns-then-c-lt1
unfolding next_of
returns-then-c-lt1 c = sym (text_zero _ _ _ _ c.if-c-lt1.true)

pub overflow_add-first : goal.overflow_add-first
overflow_add-first c = omega (arith, text_small _ _ c.text_length.ensures)

pub returns-then-o-gt0 : goal.returns-then-o-gt0
unfolding next_of
returns-then-o-gt0 c = sym (text_odd _ _ _ _ c.if-q-eq1.true c.if-o-gt0.true c.if-c-lt1.false (omega arith))

pub returns-then-q-eq1 : goal.returns-then-q-eq1
unfolding spot_of
returns-then-q-eq1 c = c.at.ensures ∙ rw c.text_length.ensures (sym (text_last _ _ _ _ c.if-q-eq1.true c.if-o-gt0.false c.if-c-lt1.false (omega arith)))

pub returns-then-o-lt1 : goal.returns-then-o-lt1
unfolding next_of
returns-then-o-lt1 c = sym (text_short _ _ _ _ c.if-q-eq1.false c.if-o-lt1.true c.if-c-lt1.false (omega arith))

pub overflow_add-first-2 : goal.overflow_add-first-2
overflow_add-first-2 c = omega (arith, text_small _ _ c.text_length.ensures, text_small _ _ c.text_length-2.ensures)

pub returns : goal.returns
returns c = c.at-2.ensures ∙ rw (c.text_length.ensures, c.text_length-2.ensures, c.text_spot.ensures, c.saturating_sub.ensures) (sym (text_two _ _ _ _ c.if-q-eq1.false c.if-o-lt1.false (omega arith) c.if-c-lt1.false (omega arith)))

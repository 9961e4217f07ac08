use mathlib.Core.Path.{◌∙◌, sym}
use native.Mathlib.Omega.{arith}
use Rattle.check_table.specs.PatternCode.{spot_of, next_of}
use Rattle.check_table.proofs.PatternLaws.{inside_owed, inside_some, member_single, member_zero, member_range, member_end, member_open, member_not}
use Rattle.check_table.proofs.WalkLaws.{member_small, owed_small}
use Rattle.check_table.proofs.pattern.member_step.Goals as goal

pub overflow_add-n : goal.overflow_add-n
overflow_add-n c = omega (arith, owed_small _ _ (c.bit.ensures ∙ inside_owed c.args.w))

pub returns-then-o-lt1 : goal.returns-then-o-lt1
unfolding next_of
returns-then-o-lt1 c = sym (member_zero _ _ _ _ _ _ _ _ c.in-32.is c.if-o-lt1.true)

pub overflow_add-n-in-32 : goal.overflow_add-n-in-32
overflow_add-n-in-32 c = omega (arith, owed_small _ _ (c.bit.ensures ∙ inside_owed c.args.w), member_small _ _ _ c.member_length.ensures)

pub overflow_add-n-in-33 : goal.overflow_add-n-in-33
overflow_add-n-in-33 c = omega (arith, owed_small _ _ (c.bit.ensures ∙ inside_owed c.args.w))

pub returns-then-o-w : goal.returns-then-o-w
unfolding spot_of
returns-then-o-w c = c.moved-then-o-w.ensures ∙ sym (member_end _ _ _ _ _ _ _ _ c.in-35.is (rw (sym (inside_some c.args.w)) c.if-o-w.true))

pub returns-else-o-lt1 : goal.returns-else-o-lt1
unfolding spot_of
returns-else-o-lt1 c = c.moved.ensures ∙ rw ((c.bit.ensures ∙ inside_owed c.args.w), c.member_length.ensures, c.member_spot.ensures) (sym (member_single _ _ _ _ _ _ _ _ c.in-32.is c.if-o-lt1.false (omega arith)))

pub returns-in-33 : goal.returns-in-33
unfolding spot_of
returns-in-33 c = c.moved-in-33.ensures ∙ rw (c.bit.ensures ∙ inside_owed c.args.w) (sym (member_range _ _ _ _ _ _ _ _ c.in-33.is))

pub returns-else-o-w : goal.returns-else-o-w
unfolding next_of
returns-else-o-w c = sym (member_open _ _ _ _ _ _ _ _ c.in-35.is (rw (sym (inside_some c.args.w)) c.if-o-w.false))

pub returns-in_default : goal.returns-in_default
unfolding next_of
returns-in_default c = sym (member_not _ _ _ _ _ _ _ _ c.in_default.in_default-own.rest.0.0.1 c.in_default.in_default-own.rest.0.1 c.in_default.in_default-own.rest.1)

use mathlib.Core.Path.{◌∙◌, sym}
use Rattle.check_table.specs.ActionCode.{spot_of, next_of}
use Rattle.form_marks.proofs.ByteLaws.{bit_small}
use Rattle.check_table.proofs.ActionLaws.{call_unmoved, call_below, call_above, call_insert, call_count, call_tag, call_text_lem, call_pointer, call_counter, call_increment, call_divide, call_not}
use native.Mathlib.Omega.{arith}
use Rattle.check_table.proofs.actions.call_step.Goals as goal

pub returns-then-m-gt4 : goal.returns-then-m-gt4
unfolding next_of
returns-then-m-gt4 c = sym (call_unmoved _ _ _ _ _ c.if-m-gt4.true)

pub returns-then-o-lt97 : goal.returns-then-o-lt97
unfolding next_of
returns-then-o-lt97 c = sym (call_below _ _ _ _ _ c.if-o-lt97.true)

pub returns-then-o-gt122 : goal.returns-then-o-gt122
unfolding next_of
returns-then-o-gt122 c = sym (call_above _ _ _ _ _ c.if-o-lt97.false c.if-o-gt122.true)

pub overflow_add-n-in-6 : goal.overflow_add-n-in-6
overflow_add-n-in-6 c = omega (arith, bit_small _ _ c.bit-moves.ensures)

pub overflow_add-n-in-7-2 : goal.overflow_add-n-in-7-2
overflow_add-n-in-7-2 c = omega (arith, bit_small _ _ c.bit-moves.ensures)

pub overflow_add-n-in-8-2 : goal.overflow_add-n-in-8-2
overflow_add-n-in-8-2 c = omega (arith, bit_small _ _ c.bit-moves.ensures)

pub overflow_add-n-in-9-2 : goal.overflow_add-n-in-9-2
overflow_add-n-in-9-2 c = omega (arith, bit_small _ _ c.bit-moves.ensures)

pub returns-in-6 : goal.returns-in-6
returns-in-6 c = c.insert_step.ensures ∙ sym (call_insert _ _ _ _ _ _ c.if-m-gt4.false c.if-o-lt97.false c.if-o-gt122.false c.bit-moves.ensures c.in-6.is)

pub returns-in-7 : goal.returns-in-7
returns-in-7 c = c.insert_step-in-7.ensures ∙ sym (call_count _ _ _ _ _ _ c.if-m-gt4.false c.if-o-lt97.false c.if-o-gt122.false c.bit-moves.ensures c.in-7.is)

pub returns-in-8 : goal.returns-in-8
unfolding spot_of
returns-in-8 c = c.at.ensures ∙ sym (call_tag _ _ _ _ _ _ c.if-m-gt4.false c.if-o-lt97.false c.if-o-gt122.false c.bit-moves.ensures c.in-8.is)

pub returns-in-9 : goal.returns-in-9
unfolding spot_of
returns-in-9 c = c.at-in-9.ensures ∙ sym (call_text_lem _ _ _ _ _ _ c.if-m-gt4.false c.if-o-lt97.false c.if-o-gt122.false c.bit-moves.ensures c.in-9.is)

pub returns-in-10 : goal.returns-in-10
returns-in-10 c = c.number_step.ensures ∙ sym (call_pointer _ _ _ _ _ _ c.if-m-gt4.false c.if-o-lt97.false c.if-o-gt122.false c.bit-moves.ensures c.in-10.is)

pub returns-in-11 : goal.returns-in-11
returns-in-11 c = c.number_step-in-11.ensures ∙ sym (call_counter _ _ _ _ _ _ c.if-m-gt4.false c.if-o-lt97.false c.if-o-gt122.false c.bit-moves.ensures c.in-11.is)

pub returns-in-12 : goal.returns-in-12
returns-in-12 c = c.number_step-in-12.ensures ∙ sym (call_increment _ _ _ _ _ _ c.if-m-gt4.false c.if-o-lt97.false c.if-o-gt122.false c.bit-moves.ensures c.in-12.is)

pub returns-in-13 : goal.returns-in-13
returns-in-13 c = c.divide_step.ensures ∙ sym (call_divide _ _ _ _ _ _ c.if-m-gt4.false c.if-o-lt97.false c.if-o-gt122.false c.bit-moves.ensures c.in-13.is)

pub returns-in_default : goal.returns-in_default
unfolding next_of
returns-in_default c = sym (call_not _ _ _ _ _ _ c.if-m-gt4.false c.if-o-lt97.false c.if-o-gt122.false c.bit-moves.ensures c.in_default.in_default-own.rest.0.0.0.0.0.0.0.1 c.in_default.in_default-own.rest.0.0.0.0.0.0.1 c.in_default.in_default-own.rest.0.0.0.0.0.1 c.in_default.in_default-own.rest.0.0.0.0.1 c.in_default.in_default-own.rest.0.0.0.1 c.in_default.in_default-own.rest.0.0.1 c.in_default.in_default-own.rest.0.1 c.in_default.in_default-own.rest.1)

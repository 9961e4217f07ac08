use Rattle.macros.specs.Macro.{is_range, digit, ascii_upper, ascii_lower, within}
use Rattle.form_marks.proofs.is_range.Goals as goal

pub returns : goal.returns
unfolding is_range digit ascii_upper ascii_lower within
returns c = rw (c.is_ascii_digit.ensures.value, c.is_ascii_digit-2.ensures.value, c.is_ascii_uppercase.ensures.value, c.is_ascii_uppercase-2.ensures.value, c.is_ascii_lowercase.ensures.value, c.is_ascii_lowercase-2.ensures.value)

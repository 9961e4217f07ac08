use mathlib.Core.Path.{sym, ◌∙◌}
use native.Mathlib.Omega.{arith}
use Rattle.word_find.proofs.Looking.{look_long, look_bad, look_form, look_found}
use Rattle.word_find.proofs.look_up.Goals as goal

pub returns-then-line-gt-MOST_LINE_BYTES : goal.returns-then-line-gt-MOST_LINE_BYTES
returns-then-line-gt-MOST_LINE_BYTES c = look_long c.args.line.now c.args.pattern.now c.if-line-gt-MOST_LINE_BYTES.true

pub returns-then-has_bad_byte : goal.returns-then-has_bad_byte
returns-then-has_bad_byte c = look_bad c.args.line.now c.args.pattern.now (omega arith) (sym c.has_bad_byte.ensures.says ∙ c.if-has_bad_byte.true)

pub returns-then-not-is_pattern : goal.returns-then-not-is_pattern
returns-then-not-is_pattern c = look_form c.args.line.now c.args.pattern.now (omega arith) (sym c.has_bad_byte.ensures.says ∙ c.if-has_bad_byte.false) (sym c.is_pattern.ensures ∙ c.if-not-is_pattern.true)

pub returns : goal.returns
returns c = look_found c.args.line.now c.args.pattern.now (omega arith) (sym c.has_bad_byte.ensures.says ∙ c.if-has_bad_byte.false) (sym c.is_pattern.ensures ∙ c.if-not-is_pattern.false) c.find.ensures

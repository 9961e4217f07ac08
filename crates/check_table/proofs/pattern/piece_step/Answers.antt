use mathlib.Core.Path.{◌∙◌, sym}
use Rattle.check_table.specs.PatternCode.{next_of}
use Rattle.check_table.proofs.PatternLaws.{piece_short, piece_element, piece_not, piece_sign}
use Rattle.check_table.proofs.pattern.piece_step.Goals as goal

pub returns-then-is_within-c : goal.returns-then-is_within-c
returns-then-is_within-c c = c.behind_sign.ensures ∙ piece_short _ _ _ _ _ _ _ _ c.is_within.ensures c.if-is_within-c.true

pub returns-then-c-gt7 : goal.returns-then-c-gt7
returns-then-c-gt7 c = c.element_step.ensures ∙ sym (piece_element _ _ _ _ _ _ _ c.if-c-gt7.true)

pub returns-then-o-gt0 : goal.returns-then-o-gt0
unfolding next_of
returns-then-o-gt0 c = sym (piece_not _ _ _ _ _ _ _ c.if-c-gt7.false c.if-o-gt0.true)

pub returns : goal.returns
returns c = c.sign_step.ensures ∙ sym (piece_sign _ _ _ _ _ _ _ c.if-c-gt7.false c.if-o-gt0.false)

use mathlib.Core.Path.{refl}
use Rattle.line_answer.specs.Replies.{reply}
use Rattle.m7.proofs.answers.refusal.Goals as goal

pub returns : goal.returns
unfolding reply
returns c = refl

use Rattle.write_put.proofs.Putting.{by_mark}
use Rattle.macros.specs.Write.{text_marks}
use Rattle.write_actions.proofs.literal.Goals as goal

pub returns : goal.returns
unfolding text_marks
returns c = by_mark _ _ c.marked.ensures c.is_text_mark.ensures

use mathlib.Core.Path.{refl}
use Rattle.form_element.proofs.Items.{right_item}
use Rattle.read_pattern.proofs.pattern.close_tag.Goals as goal

pub returns : goal.returns
returns c = (refl, rw right_item at c.put_element.ensures)

use mathlib.Core.Path.{refl}
use Rattle.form_element.proofs.Items.{left_item}
use Rattle.read_pattern.proofs.pattern.open_tag.Goals as goal

pub returns : goal.returns
returns c = (refl, rw left_item at c.put_element.ensures)

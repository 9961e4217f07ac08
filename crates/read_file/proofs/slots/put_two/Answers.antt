use Rattle.form_table.specs.Form.{two}
use Rattle.read_file.proofs.slots.put_two.Goals as goal

pub returns : goal.returns
unfolding two
returns c = c.put_item.ensures

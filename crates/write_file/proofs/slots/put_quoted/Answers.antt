use native.Mathlib.Omega.{arith}
use Rattle.write_put.proofs.Putting.{also}
use Rattle.write_put.specs.Puts.{short_text}
use Rattle.write_file.proofs.slots.put_quoted.Goals as goal

pub put_actions-requires : goal.put_actions-requires
put_actions-requires c = (omega (arith, c.requires.0, c.put-n.auto.file), c.requires.1)

pub shape_of-file : goal.shape_of-file
shape_of-file c = omega (arith, c.put-n.auto.file, c.put_actions.auto.file)

pub returns : goal.returns
unfolding short_text
returns c = also c.put-n.ensures c.put_actions.ensures

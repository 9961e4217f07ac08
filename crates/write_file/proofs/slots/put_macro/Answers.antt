use native.Mathlib.Omega.{arith}
use Rattle.write_put.proofs.Putting.{also}
use Rattle.write_file.specs.Slots.{slot_text}
use Rattle.write_file.proofs.slots.put_macro.Goals as goal

pub put_before-a-requires : goal.put_before-a-requires
put_before-a-requires c = c.requires

pub put_left-b-requires : goal.put_left-b-requires
put_left-b-requires c = (omega (arith, c.requires.0, c.put_before-a.auto.file), c.requires.1)

pub put_right-requires : goal.put_right-requires
put_right-requires c = (omega (arith, c.requires.0, c.put_before-a.auto.file, c.put_left-b.auto.file), c.requires.1)

pub shape_of-file : goal.shape_of-file
shape_of-file c = omega (arith, c.put_before-a.auto.file, c.put_left-b.auto.file, c.put_right.auto.file)

pub returns : goal.returns
unfolding slot_text
returns c = also c.put_before-a.ensures (also c.put_left-b.ensures c.put_right.ensures)

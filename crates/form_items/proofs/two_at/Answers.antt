use native.Mathlib.Numerals.{add-one}
use native.Mathlib.Omega.{arith}
use Rattle.form_table.specs.Check.{two_at}
use Rattle.form_items.proofs.two_at.Goals as goal

pub returns : goal.returns
unfolding two_at
returns c = (rw (← add-one c.args.p) (omega (arith, c.from_le_bytes.ensures)), omega (arith, c.from_le_bytes.type_inv))

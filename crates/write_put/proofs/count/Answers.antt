use native.Mathlib.Omega.{arith}
use Rattle.write_put.proofs.Putting.{by_size, short_few}
use Rattle.write_put.proofs.count.Goals as goal

pub end_of-requires : goal.end_of-requires
end_of-requires c = (omega arith, omega (arith, short_few c.args.s, c.size_of.ensures))

pub returns : goal.returns
returns c = record { ends = by_size c.size_of.ensures c.end_of.ensures }

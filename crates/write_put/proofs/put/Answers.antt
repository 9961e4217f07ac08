use native.Mathlib.Omega.{arith}
use Rattle.write_put.proofs.Putting.{by_size, put_past, short_few}
use Rattle.write_put.proofs.put.Goals as goal

pub end_of-end-requires : goal.end_of-end-requires
end_of-end-requires c = (omega arith, omega (arith, short_few c.args.s, c.size_of.ensures))

pub returns-then-file-end : goal.returns-then-file-end
returns-then-file-end c = put_past (by_size c.size_of.ensures c.end_of-end.ensures) c.if-file-end.true

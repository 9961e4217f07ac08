use native.Mathlib.Omega.{arith}
use Rattle.m7.proofs.Results.{octets_given, zero_lent, read_few, read_taken, read_place, read_refused}
use Rattle.m7.proofs.read.read_new.Goals as goal

pub read_onto-requires : goal.read_onto-requires
read_onto-requires c = zero_lent c.requires.0

pub taken-requires : goal.taken-requires
taken-requires c = omega (arith, read_few c.args.file.now c.args.made.now _ c.requires.0 c.in-Ok.ensures (octets_given c.args.file.now c.type_inv.file))

pub returns-in-Ok : goal.returns-in-Ok
returns-in-Ok c = read_taken c.args.file.now c.args.made.now _ c.requires.0 c.in-Ok.ensures c.args.table.now c.requires.1 c.copy_from_slice.ensures.after c.taken.ensures

pub refusal-requires : goal.refusal-requires
refusal-requires c = omega (arith, read_place c.args.file.now c.args.made.now c.read_onto.new.table c.requires.0 _ c.in-Err.ensures)

pub returns-in-Err : goal.returns-in-Err
returns-in-Err c = read_refused c.args.file.now c.args.made.now c.read_onto.new.table c.requires.0 _ c.in-Err.ensures c.args.table.now c.requires.1 c.from.ensures c.refusal.ensures

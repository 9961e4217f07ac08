use mathlib.Core.Path.{refl}
use native.Mathlib.Omega.{arith}
use Rattle.m7.proofs.Results.{octets_given}
use Rattle.m7.proofs.RecoverResults.{recover_few, recover_place_lem, recover_refused, recover_taken}
use Rattle.m7.proofs.recover.recover_new.Goals as goal

pub read_past-requires : goal.read_past-requires
read_past-requires c = (c.requires.0, c.requires.1)

pub taken-requires : goal.taken-requires
taken-requires c = omega (arith, recover_few c.args.file.now c.read_past.new.table c.read_past.new.faults (octets_given c.args.file.now c.type_inv.file) c.in-Ok.ensures)

pub returns-in-Ok : goal.returns-in-Ok
returns-in-Ok c =
    let args = c.args in
    recover_taken args.file.now c.read_past.new.table c.read_past.new.faults (octets_given args.file.now c.type_inv.file) c.in-Ok.ensures (record { table = args.table.now; faults = args.faults.now })
    c.requires.2 c.requires.3 c.copy_from_slice.ensures.after c.copy_from_slice-in-Ok.ensures.after c.taken.ensures

pub refusal-requires : goal.refusal-requires
refusal-requires c = omega (arith, recover_place_lem c.args.file.now c.read_past.new.table c.read_past.new.faults (octets_given c.args.file.now c.type_inv.file) _ c.in-Err.ensures)

pub returns-in-Err : goal.returns-in-Err
returns-in-Err c =
    let args = c.args in
    recover_refused args.file.now c.read_past.new.table c.read_past.new.faults (octets_given args.file.now c.type_inv.file) _ c.in-Err.ensures (record { table = args.table.now; faults = args.faults.now })
    c.requires.2 c.requires.3 refl c.refusal.ensures

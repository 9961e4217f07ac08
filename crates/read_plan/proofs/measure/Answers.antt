use Rattle.std.proofs.Common.{arith}
use Rattle.read_scan.proofs.Laws.{handed_on}
use Rattle.read_file.proofs.Restoring.{plain_file}
use Rattle.read_plan.proofs.Spelled.{bytes_of}
use Rattle.read_plan.proofs.Tallies.{whole_refused}
use Rattle.read_plan.proofs.measure.Goals as goal

pub returns-in_err-whole_file : goal.returns-in_err-whole_file
returns-in_err-whole_file c = rw (handed_on c.from_residual.ensures) (whole_refused _ _ c.in_err-whole_file.ensures)

pub measure_macros-requires : goal.measure_macros-requires
measure_macros-requires c =
    let p = plain_file _ c.in_ok-whole_file.ensures in
    (p.0, bytes_of c.args.file.now 0 (λ i. omega (arith, c.type_inv.file i)) p.1)

use Rattle.m7.proofs.Results.{octets_given}
use Rattle.m7.proofs.Measuring.{measured_small, measured_plan}
use Rattle.m7.proofs.measure.m7_measure.Goals as goal

pub in_numbers-requires : goal.in_numbers-requires
in_numbers-requires c = measured_small c.args.file.now c.measure.result c.measure.ensures (octets_given c.args.file.now c.type_inv.file)

pub returns : goal.returns
returns c = measured_plan c.args.file.now c.measure.result c.measure.ensures c.in_numbers.ensures

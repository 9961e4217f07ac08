use Rattle.std.proofs.Common.{rules}
use Rattle.std.proofs.lemmas.Slice.{overwrites}
use Rattle.program_in.proofs.Lines.{keeps_parts}
use Rattle.program_in.proofs.keep.Goals as goal

pub returns : goal.returns
returns c = keeps_parts c.args.line.now c.args.bytes.now c.args.held c.min-end.result c.requires c.min-end.ensures (search (rules, overwrites)) (search (rules, overwrites)) (search (rules, overwrites))

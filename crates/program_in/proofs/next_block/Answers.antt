use native.Mathlib.Omega.{arith}
use Rattle.program_in.proofs.Lines.{filled_read}
use Rattle.program_in.proofs.next_block.Goals as goal

pub returns : goal.returns
returns g c = filled_read c.args.from c.args.block.now c.read_once-size.new.block c.read_once-size.result c.requires (omega (arith, c.read_once-size.ensures, c.read_once-size.auto.block))

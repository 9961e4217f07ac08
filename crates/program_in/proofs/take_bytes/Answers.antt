use mathlib.Core.Path.{sym}
use Rattle.program_in.proofs.Lines.{looked, taken_fed, taken_used}
use Rattle.program_in.proofs.take_bytes.Goals as goal

pub returns-in-Some : goal.returns-in-Some
returns-in-Some c =
    let e = looked c.args.from c.args.block.now c.args.line.now c.requires.1 c.requires.0 in
    rw c.within.ensures (taken_fed c.args.from c.args.block.now c.args.line.now c.requires.1 c.requires.0 (rw e at (sym c.in-Some.ensures)) (rw e at c.keep.ensures))

pub returns-in-None : goal.returns-in-None
returns-in-None c =
    let e = looked c.args.from c.args.block.now c.args.line.now c.requires.1 c.requires.0 in
    rw c.within-in-None.ensures (taken_used c.args.from c.args.block.now c.args.line.now c.requires.1 c.requires.0 (rw e at (sym c.in-None.ensures)) (rw e at c.keep-in-None.ensures))

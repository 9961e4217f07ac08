use mathlib.Core.Path.{refl}
use Rattle.m7.proofs.Results.{octets_given}
use Rattle.program.proofs.Lines.{file_parts}
use Rattle.program.proofs.Held.{ready}
use Rattle.program.proofs.parts.read_table.Goals as goal

pub shape_of-table : goal.shape_of-table
shape_of-table c = c.m7_read-answer.auto.table

pub returns : goal.returns
returns c =
    let file = c.args.file.now in
    let old = c.args.table.now in
    let octets = octets_given file c.shared_slice_known-1.given in
    let read = c.m7_read-answer in
    rw c.parts_of.ensures (
    record {
      parts_read = file_parts _ (record { file = file; most = c.requires.0; answer = read.result; read = read.ensures; same = refl });
      ready = ready file old octets c.requires.1 read.ensures;
    }
    )

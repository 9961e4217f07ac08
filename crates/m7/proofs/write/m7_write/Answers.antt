use native.Mathlib.Omega.{arith}
use mathlib.Core.Path.{sym, ◌∙◌}
use Rattle.line_answer.proofs.Laws.{no_place}
use Rattle.m7.proofs.Results.{octets_given, other_table, other_file, write_other, write_none, some_table, write_size, write_place, write_taken, write_refused}
use Rattle.m7.proofs.write.m7_write.Goals as goal

pub refusal-requires : goal.refusal-requires
refusal-requires c = no_place

pub returns-then-table-ne-TABLE_BYTES : goal.returns-then-table-ne-TABLE_BYTES
returns-then-table-ne-TABLE_BYTES c = write_other c.args.table.now c.args.file.now (other_table _ _ c.if-table-ne-TABLE_BYTES.true) c.refusal.ensures

pub refusal-requires-then-file-ne-FILE_BYTES : goal.refusal-requires-then-file-ne-FILE_BYTES
refusal-requires-then-file-ne-FILE_BYTES c = no_place

pub returns-then-file-ne-FILE_BYTES : goal.returns-then-file-ne-FILE_BYTES
returns-then-file-ne-FILE_BYTES c = write_other c.args.table.now c.args.file.now (other_file _ _ c.if-table-ne-TABLE_BYTES.false c.if-file-ne-FILE_BYTES.true) c.refusal-then-file-ne-FILE_BYTES.ensures

pub refusal-requires-then-not-is_table : goal.refusal-requires-then-not-is_table
refusal-requires-then-not-is_table c = no_place

pub returns-then-not-is_table : goal.returns-then-not-is_table
returns-then-not-is_table c =
    let t = c.args.table.now in
    let old = c.args.file.now in
    let o = octets_given t c.shared_slice_known-1.given in
    write_none t old c.if-table-ne-TABLE_BYTES.false c.if-file-ne-FILE_BYTES.false o (sym c.is_table.ensures ∙ c.if-not-is_table.true) c.refusal-then-not-is_table.ensures

pub write_table-writing-requires : goal.write_table-writing-requires
write_table-writing-requires c =
    let t = c.args.table.now in
    let old = c.args.file.now in
    let o = octets_given t c.shared_slice_known-1.given in
    (c.if-file-ne-FILE_BYTES.false, some_table t old c.if-table-ne-TABLE_BYTES.false c.if-file-ne-FILE_BYTES.false o (sym c.is_table.ensures ∙ c.if-not-is_table.false))

pub taken-requires : goal.taken-requires
taken-requires c =
    let t = c.args.table.now in
    let old = c.args.file.now in
    let o = octets_given t c.shared_slice_known-1.given in
    let z = sym c.is_table.ensures ∙ c.if-not-is_table.false in
    let h = write_size t old c.if-table-ne-TABLE_BYTES.false c.if-file-ne-FILE_BYTES.false o z c.write_table-writing.ensures c.in-Ok.is in
    omega (arith, h)

pub shape_of-file-in-Ok : goal.shape_of-file-in-Ok
shape_of-file-in-Ok c = c.write_table-writing.auto.out

pub returns-in-Ok : goal.returns-in-Ok
returns-in-Ok c =
    let t = c.args.table.now in
    let old = c.args.file.now in
    let o = octets_given t c.shared_slice_known-1.given in
    let z = sym c.is_table.ensures ∙ c.if-not-is_table.false in
    write_taken t old c.if-table-ne-TABLE_BYTES.false c.if-file-ne-FILE_BYTES.false o z c.write_table-writing.ensures c.in-Ok.is c.taken.ensures

pub refusal-requires-in-Err : goal.refusal-requires-in-Err
refusal-requires-in-Err c =
    let t = c.args.table.now in
    let old = c.args.file.now in
    let o = octets_given t c.shared_slice_known-1.given in
    let z = sym c.is_table.ensures ∙ c.if-not-is_table.false in
    write_place t old c.if-table-ne-TABLE_BYTES.false c.if-file-ne-FILE_BYTES.false o z c.write_table-writing.ensures c.in-Err.is

pub shape_of-file-in-Err : goal.shape_of-file-in-Err
shape_of-file-in-Err c = c.write_table-writing.auto.out

pub returns-in-Err : goal.returns-in-Err
returns-in-Err c =
    let t = c.args.table.now in
    let old = c.args.file.now in
    let o = octets_given t c.shared_slice_known-1.given in
    let z = sym c.is_table.ensures ∙ c.if-not-is_table.false in
    write_refused t old c.if-table-ne-TABLE_BYTES.false c.if-file-ne-FILE_BYTES.false o z c.write_table-writing.ensures c.in-Err.is c.from.ensures c.refusal-in-Err.ensures

use mathlib.Core.Path.{refl, subst}
use Rattle.std.proofs.lemmas.Result.{err_from_is_err_and}
use Rattle.write_file.specs.Slots.{Lists}
use native.Mathlib.Omega.{arith}
use Rattle.write_file.proofs.Tabled.{table_length}
use Rattle.write_file.proofs.Listed.{reach_none, reach_end, reach_all, here, reach_next, next_within, reach_stop}
use Rattle.write_file.proofs.slots.write_slots.Goals as goal

pub loop-k-init : goal.loop-k-init
loop-k-init c = (omega arith, omega arith, refl, reach_none c.args.table.now c.args.file.now)

pub bounds-table-a : goal.bounds-table-a
bounds-table-a c = omega (arith, table_length c.args.table.now c.requires.1.0 c.requires.1.1)

pub returns-then-table-a-eq0 : goal.returns-then-table-a-eq0
returns-then-table-a-eq0 c = reach_end c.args.table.now c.loop-k.file c.loop-k.n c.loop-k.k c.loop-k.invariant.3 (omega arith) c.if-table-a-eq0.true

pub slice_bounds-write_macro-end : goal.slice_bounds-write_macro-end
slice_bounds-write_macro-end c = omega (arith, table_length c.args.table.now c.requires.1.0 c.requires.1.1)

pub write_macro-requires : goal.write_macro-requires
write_macro-requires c = (omega arith, omega arith, (here c.args.table.now c.loop-k.file c.loop-k.n c.loop-k.k c.loop-k.invariant.3 c.if-table-a-eq0.false c.requires.1.0 c.requires.1.1).parts)

pub returns-in_err-n : goal.returns-in_err-n
returns-in_err-n c =
    let p = err_from_is_err_and c.from_residual.result c.from_residual.ensures.1 in
    rw (p.1, p.2) (subst (Lists c.args.table.now c.write_macro.new.file) c.in_err-n.was (reach_stop c.args.table.now c.loop-k.file c.loop-k.n c.loop-k.k c.loop-k.invariant.3 c.if-table-a-eq0.false c.write_macro.ensures c.in_err-n.was))

pub loop-k-preserved : goal.loop-k-preserved
loop-k-preserved c = (omega arith, next_within c.args.table.now c.loop-k.file c.loop-k.n c.loop-k.k c.loop-k.invariant.3 c.if-table-a-eq0.false c.write_macro.ensures c.in_ok-n.was, omega arith, reach_next c.args.table.now c.loop-k.file c.loop-k.n c.loop-k.k c.loop-k.invariant.3 c.if-table-a-eq0.false c.write_macro.ensures c.in_ok-n.was)

pub returns : goal.returns
returns c = reach_all c.args.table.now c.loop-k.file c.loop-k.n c.loop-k.k c.loop-k.invariant.3 (omega arith) (omega arith)

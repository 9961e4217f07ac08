use Prim.Native.Nat.{ℕ}
use mathlib.Core.Path.{◌∙◌, subst}
use native.Mathlib.Omega.{arith}
use lib.ListN.{length-replicate}
use Rattle.std.proofs.lemmas.Result.{err_from_is_err_and}
use Rattle.write_file.specs.Contract.{WritesOut}
use Rattle.write_file.proofs.Listed.{write_file, write_none, written_within, laid}
use Rattle.write_file.proofs.write_table.Goals as goal

pub returns-in_err-n : goal.returns-in_err-n
returns-in_err-n c =
    let p = err_from_is_err_and c.from_residual.result c.from_residual.ensures.1 in
    let t = c.args.table.now in
    let o = c.args.out.now in
    rw (p.1, p.2) (subst (WritesOut t o o) c.in_err-n.was (write_none c.write_slots.ensures c.in_err-n.was))

pub returns : goal.returns
returns c =
    let whole = c.write_slots.auto.file ∙ length-replicate {A = ℕ} 32768 0 in
    let n = c.in_ok-n.n in
    write_file c.write_slots.ensures c.in_ok-n.was whole
    (laid n _ c.write_slots.new.file c.args.out.now _ _ (written_within c.write_slots.ensures c.in_ok-n.was) whole c.requires.0 c.copy_from_slice.ensures.after (omega arith) (c.fill.ensures.after (λ y e. e)))

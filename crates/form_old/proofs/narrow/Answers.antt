use Prim.Native.Nat.{ℕ}
use mathlib.Core.Path.{sym}
use native.Mathlib.Omega.{arith}
use lib.Seq.{length-take-le}
use Rattle.form_old.proofs.Turns.{narrow_whole}
use Rattle.form_old.proofs.narrow.Goals as goal

pub slice_bounds-copy-end : goal.slice_bounds-copy-end
slice_bounds-copy-end c = sym (length-take-le {A = ℕ} 236 c.args.state.now (omega (arith, c.requires.0)))

pub copy-requires : goal.copy-requires
copy-requires c = let h = length-take-le {A = ℕ} 236 c.args.state.now (omega (arith, c.requires.0)) in omega (arith, h, c.requires.1)

pub returns : goal.returns
returns c =
    let a = c.args in
    narrow_whole a.old.now a.state.now c.requires.0 c.requires.1 c.copy.new.out _ c.copy.ensures c.narrow_entries.ensures

use Prim.Native.Nat.{◌/◌}
use mathlib.Core.Path.{sym}
use native.Mathlib.Omega.{arith}
use lib.ListN.{length}
use lib.Seq.{length-take-le}
use Rattle.form_bytes.proofs.Zeros.{quarter_sizes, in_quarters}
use Rattle.form_bytes.proofs.all_zero_by_four.Goals as goal

pub slice_bounds-four_zero-end : goal.slice_bounds-four_zero-end
slice_bounds-four_zero-end c = sym (length-take-le _ _ (omega arith))

pub four_zero-quarters-requires : goal.four_zero-quarters-requires
four_zero-quarters-requires c =
    let s = c.before.before.before.before.before.args.s.now in
    quarter_sizes s (length s / 4) (omega arith)

pub returns : goal.returns
returns c =
    let s = c.before.before.before.before.before.before.before.before.args.s.now in
    rw (c.four_zero-quarters.ensures, c.all_zero.ensures) (in_quarters s (length s / 4))

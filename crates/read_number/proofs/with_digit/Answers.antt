use mathlib.Core.Path.{ap, ◌∙◌}
use Prim.Native.Nat.{ℕ, ◌+◌, ◌*◌, min}
use native.Mathlib.Omega.{arith}
use Rattle.read_number.proofs.Numbers.{digit_low, most_min}
use Rattle.read_number.proofs.with_digit.Goals as goal

pub overflow_sub-b : goal.overflow_sub-b
overflow_sub-b c = omega (arith, digit_low c.requires.1)

pub returns : goal.returns
returns c = (c.min.ensures ∙ (ap (λ (x : ℕ). min (c.args.n * 10 + x) 1000000000) c.from.ensures ∙ most_min _), omega (arith, c.min.ensures))

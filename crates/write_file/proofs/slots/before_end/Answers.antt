use mathlib.Core.Path.{ap}
use Prim.Native.Nat.{ℕ, ◌+◌}
use native.Mathlib.Omega.{arith}
use Rattle.write_file.specs.Slots.{before_end}
use Rattle.form_table.specs.Form.{header_bytes}
use Rattle.write_file.proofs.slots.before_end.Goals as goal

pub two_at-requires : goal.two_at-requires
two_at-requires c = omega (arith, c.requires.size)

pub overflow_add-result : goal.overflow_add-result
overflow_add-result c = omega (arith, c.two_at.ensures.1)

pub returns : goal.returns
unfolding before_end
returns c = ap (λ (k : ℕ). header_bytes + k) c.two_at.ensures.0

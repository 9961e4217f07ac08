use mathlib.Core.Path.{refl}
use Rattle.kinds.specs.Kind.{kind_of, kind_bits, kind_bits_from, kind_table}
use Rattle.kinds.proofs.kind_table.Goals as goal

pub returns : goal.returns
unfolding kind_table kind_bits_from kind_bits kind_of
returns c = refl

use native.Mathlib.Omega.{arith}
use Rattle.pass_texts.proofs.Digits.{digits_nine}
use Rattle.pass_texts.proofs.put_value.Goals as goal

pub put_digits-n-requires : goal.put_digits-n-requires
put_digits-n-requires c = (omega (arith, digits_nine c.args.v c.requires.0), omega arith)

use mathlib.Core.Path.{ap}
use mathlib.Core.List.{List}
use native.Mathlib.Omega.{arith}
use lib.ListN.{length}
use Rattle.form_table.proofs.Digits.{digits_few}
use Rattle.pass_texts.proofs.Digits.{digits_longer, digits_one, digits_more}
use Prim.Native.Nat.{ℕ}
use Rattle.pass_texts.proofs.+put_digits.Goals as goal

pub bounds-out-0 : goal.bounds-out-0
bounds-out-0 t c = omega (arith, ap {A = List ℕ} length (digits_few c.args.v c.if-v-lt10.true), c.requires.0)

pub returns-then-v-lt10 : goal.returns-then-v-lt10
returns-then-v-lt10 t c = digits_one c.args.out.now c.if-v-lt10.true (omega (arith, ap {A = List ℕ} length (digits_few c.args.v c.if-v-lt10.true), c.requires.0)) c.figure.ensures

pub put_digits-n-requires : goal.put_digits-n-requires
put_digits-n-requires t c = (omega arith, (omega (arith, digits_longer c.args.v c.if-v-lt10.false, c.requires.0), c.requires.1))

pub bounds-out-n : goal.bounds-out-n
bounds-out-n t c = omega (arith, digits_longer c.args.v c.if-v-lt10.false, c.put_digits-n.ensures.count, c.requires.0)

pub returns : goal.returns
returns t c = digits_more c.if-v-lt10.false c.put_digits-n.ensures (omega (arith, digits_longer c.args.v c.if-v-lt10.false, c.put_digits-n.ensures.count, c.requires.0)) c.figure-2.ensures

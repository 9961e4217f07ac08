use Prim.Native.Nat.{ℕ}
use mathlib.Core.Path.{ap}
use mathlib.Core.List.{List}
use native.Mathlib.Omega.{arith}
use lib.ListN.{length, length-set}
use Rattle.form_table.proofs.Digits.{digits_two}
use Rattle.line_trace.proofs.Laws.{puts_digit, puts_digits}
use Rattle.line_trace.proofs.put_number.Goals as goal

pub returns-then-number-lt10 : goal.returns-then-number-lt10
returns-then-number-lt10 c = puts_digit c.args.trace.now c.args.at c.args.number c.if-number-lt10.true c.requires.1

pub bounds-trace-at-3 : goal.bounds-trace-at-3
bounds-trace-at-3 c = simp length-set (omega (arith, ap {A = List ℕ} length (digits_two c.args.number c.if-number-lt10.false (omega (arith, c.requires.0))), c.requires.1))

pub returns : goal.returns
returns c = puts_digits c.args.trace.now c.args.at c.args.number c.if-number-lt10.false c.requires.0 c.requires.1

use mathlib.Core.Path.{ap, sym, ◌∙◌}
use mathlib.Core.List.{[], ◌∷◌}
use Prim.Native.Nat.{◌+◌}
use Rattle.macros.specs.Macro.Mark.{counter}
use Rattle.macros.specs.Macro.Call.{set_to, set_increment, divide}
use Rattle.macros.specs.ReadSoFar.Phase.{equals, increment, divisor}
use Rattle.read_call.proofs.Marks.{counter_comma, counter_uncomma, counter_equal, counter_unequal, counter_colon, counter_uncolon, counter_undivided, counter_uninserted, counter_close, counter_strange, sets_counter, sets_increment_lem, sets_divisor, insert_counter}
use native.Mathlib.Omega.{arith}
use Rattle.std.proofs.lemmas.Bool.Decides.{nat_tests}
use Rattle.read_call.proofs.calls.counter_tail.Goals as goal

pub returns-in-44 : goal.returns-in-44
returns-in-44 c = (omega arith, λ i v e. (increment i, set_increment i, sets_increment_lem i, counter_comma _ i _ _ v c.in-44.is e (omega (arith, c.if-m-eq0.true))))

pub returns-in-61 : goal.returns-in-61
returns-in-61 c = (omega arith, λ i v e. (equals counter i, set_to counter i, sets_counter i, counter_equal _ i _ _ v c.in-61.is e (omega (arith, c.if-m-eq0-2.true))))

pub returns-in-58 : goal.returns-in-58
returns-in-58 c =
    (omega arith, λ i v e. (divisor i, divide i, sets_divisor i, counter_colon _ i _ _ v c.in-58.is e (omega (arith, c.if-m-eq0-3.true)) (grind (arith, nat_tests))))

pub returns-in-41 : goal.returns-in-41
returns-in-41 c i v e = (counter_close _ i _ v c.in-41.is (sym c.may_insert-inserts.ensures ∙ c.if-inserts-2.true), insert_counter i v ∙ ap (λ x. (56 + x) ∷ i ∷ []) (sym e))

pub returns-in_default : goal.returns-in_default
returns-in_default c i v e l = counter_uncomma _ i _ _ v c.in-44.is e (omega (arith, c.if-m-eq0.false))

pub returns-in_default-2 : goal.returns-in_default-2
returns-in_default-2 c i v e l = counter_unequal _ i _ _ v c.in-61.is e (omega (arith, c.if-m-eq0-2.false))

pub returns-in_default-3 : goal.returns-in_default-3
returns-in_default-3 c i v e l = counter_undivided _ i _ v c.in-58.is (grind (arith, nat_tests))

pub returns-in_default-4 : goal.returns-in_default-4
returns-in_default-4 c i v e l = counter_uncolon _ i _ _ v c.in-58.is e (omega (arith, c.if-m-eq0-3.false))

pub returns-in_default-5 : goal.returns-in_default-5
returns-in_default-5 c i v e l = counter_uninserted _ i _ v c.in-41.is (sym c.may_insert-inserts.ensures ∙ c.if-inserts-2.false)

pub returns-in_default-6 : goal.returns-in_default-6
returns-in_default-6 c i v e l = counter_strange _ i _ v (λ h. omega (arith, h)) (λ h. omega (arith, h)) (λ h. omega (arith, h)) (λ h. omega (arith, h)) l

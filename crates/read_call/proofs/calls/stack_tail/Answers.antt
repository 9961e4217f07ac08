use mathlib.Core.Path.{ap, sym, ◌∙◌}
use mathlib.Core.List.{[], ◌∷◌}
use Prim.Native.Nat.{◌+◌}
use Rattle.macros.specs.Macro.Mark.{stack}
use Rattle.macros.specs.Macro.Call.{set_to}
use Rattle.macros.specs.ReadSoFar.Phase.{equals}
use Rattle.read_call.proofs.Marks.{stack_colon, stack_equal, stack_unequal, stack_uninserted, stack_close, stack_strange, sets_stack, insert_stack}
use native.Mathlib.Omega.{arith}
use Rattle.read_call.proofs.calls.stack_tail.Goals as goal

pub returns-in-58 : goal.returns-in-58
returns-in-58 c i v e = stack_colon _ i _ v c.in-58.is

pub returns-in-61 : goal.returns-in-61
returns-in-61 c = (omega arith, λ i v e. (equals stack i, set_to stack i, sets_stack i, stack_equal _ i _ _ v c.in-61.is e (omega (arith, c.if-m-eq0.true))))

pub returns-in-41 : goal.returns-in-41
returns-in-41 c i v e = (stack_close _ i _ v c.in-41.is (sym c.may_insert.ensures ∙ c.if-may_insert.true), insert_stack i v ∙ ap (λ x. (48 + x) ∷ i ∷ []) (sym e))

pub returns-in_default : goal.returns-in_default
returns-in_default c i v e l = stack_unequal _ i _ _ v c.in-61.is e (omega (arith, c.if-m-eq0.false))

pub returns-in_default-2 : goal.returns-in_default-2
returns-in_default-2 c i v e l = stack_uninserted _ i _ v c.in-41.is (sym c.may_insert.ensures ∙ c.if-may_insert.false)

pub returns-in_default-3 : goal.returns-in_default-3
returns-in_default-3 c i v e l = stack_strange _ i _ v (λ h. omega (arith, h)) (λ h. omega (arith, h)) (λ h. omega (arith, h)) l

use Prim.Native.Nat.{ℕ}
use mathlib.Core.List.{List, [], ◌∷◌, ◌++◌}
use mathlib.Core.Path.{ap, sym}
use Rattle.write_put.specs.Puts.{short_text}
use native.Mathlib.Omega.{arith}
use Rattle.form_table.proofs.Digits.{digits_few}
use Rattle.form_table.proofs.Digits.{digits_two, digits_three}
use Rattle.write_put.proofs.decimal.Goals as goal

pub returns-then-v-lt10 : goal.returns-then-v-lt10
unfolding short_text
returns-then-v-lt10 c = ap (λ (l : List ℕ). l ++ (c.args.close ∷ [])) (sym (digits_few c.args.v c.if-v-lt10.true))

pub returns-then-tens-lt10 : goal.returns-then-tens-lt10
unfolding short_text
returns-then-tens-lt10 c = ap (λ (l : List ℕ). l ++ (c.args.close ∷ [])) (sym (digits_two c.args.v (omega arith) (omega arith)))

pub returns : goal.returns
unfolding short_text
returns c = ap (λ (l : List ℕ). l ++ (c.args.close ∷ [])) (sym (digits_three c.args.v (omega arith) (omega arith)))

use mathlib.Core.Path.{◌≡◌, refl, subst, ◌∙◌}
use native.Mathlib.Omega.{arith}
use lib.Dec.{eqb}
use borrow.Author.Rules.{rules}
use Rattle.std.proofs.lemmas.Fn.{fold_over, slice_gives, fronts}
use Rattle.form_bytes.specs.Zeros.{all_zero}
use Rattle.form_bytes.proofs.Zeros.{zero_more, from_front}
use Rattle.form_bytes.proofs.all_zero.Goals as goal

pub returns : goal.returns
unfolding all_zero
returns c = subst (λ l. eqb c.fold.result 0 ≡ all_zero l) c.iter.ensures.rest
    (fold_over fronts (λ y. y.now) _ (λ ys n. eqb n 0 ≡ all_zero ys) _ (λ ys a x b f' j k. let more = zero_more ys x.now a j in search rules)
    _ _ _ _ (slice_gives c.iter.result) refl c.fold.ensures.ran)
    ∙ grind (arith, from_front)

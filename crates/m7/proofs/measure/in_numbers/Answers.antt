use Rattle.std.proofs.Common.{ap, ◌∙◌, ℕ}
use Rattle.plans.specs.Numbers.{told, unread_plan}
use Rattle.m7.proofs.measure.in_numbers.Goals as goal

pub returns-in-Err : goal.returns-in-Err
unfolding told
returns-in-Err c = rw c.in-Err.is (c.unread.ensures ∙ ap (λ (n : ℕ). unread_plan n c.in-Err.e.place) c.from.ensures)

-- N10 of the calls of m7_feed: the contract joined to the laws of crates/lines.
use Prim.Native.Nat.{ℕ, ◌≤◌, ◌<◌}
use native.Mathlib.Omega.{arith}
use mathlib.Core.Path.{◌≡◌, refl, sym, ap, subst, ◌∙◌}
use mathlib.Core.Logic.{◌↔◌}
use Rattle.macros.specs.Refusals.{HostRefusal, host_number, number}
use Rattle.macros.specs.Refusals.Refusal.{of_host}
use Rattle.macros.specs.Refusals.HostRefusal.{bad_memory, bad_table, bad_state, budget_too_large}
use Rattle.macros.specs.Macro.{Table}
use Rattle.lines.specs.State.{State}
use Rattle.lines.specs.Line.{Sent}
use Rattle.lines.specs.Feeding.{number_of, feed}
use Rattle.lines.specs.Feeding.{Answer as Answered}
use Rattle.lines.specs.LargerBudget.{with_budget, Settled as LineSettled, Smallest}
use Rattle.lines.proofs.LargerLaws.{larger_budget, smallest_budget, used_up_exact, used_up_passes}
use Rattle.line_memory.specs.Memory.{Memories}
use Rattle.line_answer.specs.declared.Answer.{Answer}
use Rattle.m7.specs.Feeding.{Returns, Refuses, answer_of}
use Rattle.m7_demands.specs.OneFeed.{Returned, called_with, Same}
use Rattle.m7_demands.specs.LargerBudget.{Settled, Twice, LargerBudget, PassesGive, SmallerRefused, UsedUpPasses, UsedUpExact}
use Rattle.m7_demands.proofs.OneFeed.{both_refuse, both_return, Called, refuses, returns, called}

-- a call that returns the answer a carries its number and its passes
module _ (sent : Sent) (m : Memories) (w : Returned) (a : Answered) (f : Returns (called_with sent m w) a) where
  pub number_is : w.answer.number ≡ number_of a.kind
  unfolding answer_of
  number_is = ap (λ (r : Answer). r.number) f.answers

  passes_are : w.answer.passes ≡ a.passes
  unfolding answer_of
  passes_are = ap (λ (r : Answer). r.passes) f.answers

  settled_is : Settled w.answer → LineSettled a
  settled_is s = (λ e. s.0 (number_is ∙ e), λ e. s.1 (number_is ∙ e))

-- a host's refusal has no pass, and its number is not 31
no_passes : (sent : Sent) (m : Memories) (w : Returned) (r : HostRefusal) → Refuses (called_with sent m w) r → w.answer.passes ≡ 0
no_passes sent m w r f = ap (λ (a : Answer). a.passes) f.answer

not_31 : (r : HostRefusal) → number (of_host r) ≡ 31 → ⊥
unfolding number host_number
not_31 bad_memory e = omega arith
not_31 bad_table e = omega arith
not_31 bad_state e = omega arith
not_31 budget_too_large e = omega arith

-- THE LAWS
pub larger : LargerBudget
larger sent n m w v t s l k = go (called m t.table t.state)
  where
    go : Called m → Same w v
    go (refuses r f) = both_refuse sent (with_budget n sent) m w v r (f sent w t.first) (f (with_budget n sent) v t.second)
    go (returns ms st f) =
        let x = f sent w t.first in
        let e = larger_budget ms st sent (settled_is sent m w (feed ms st sent) x s) n l k in
        both_return sent (with_budget n sent) m w v (feed ms st sent) x (subst (Returns (called_with (with_budget n sent) m v)) e (f (with_budget n sent) v t.second))

pub passes_give : PassesGive
passes_give sent n m w v t s p = go (called m t.table t.state)
  where
    go : Called m → Same w v
    go (refuses r f) = both_refuse sent (with_budget n sent) m w v r (f sent w t.first) (f (with_budget n sent) v t.second)
    go (returns ms st f) =
        let x = f sent w t.first in
        let q : n ≡ (feed ms st sent).passes = p ∙ passes_are sent m w (feed ms st sent) x in
        let e = (smallest_budget ms st sent (settled_is sent m w (feed ms st sent) x s)).gives in
        both_return sent (with_budget n sent) m w v (feed ms st sent) x
        (subst (Returns (called_with (with_budget n sent) m v)) (ap (λ (j : ℕ). feed ms st (with_budget j sent)) q ∙ e) (f (with_budget n sent) v t.second))

pub smaller_refused : SmallerRefused
smaller_refused sent n m w v t s l = go (called m t.table t.state)
  where
    go : Called m → v.answer.number ≡ 31
    go (refuses r f) = absurd (let z : w.answer.passes ≡ 0 = no_passes sent m w r (f sent w t.first) in omega arith)
    go (returns ms st f) =
        let x = f sent w t.first in
        let q : w.answer.passes ≡ (feed ms st sent).passes = passes_are sent m w (feed ms st sent) x in
        number_is (with_budget n sent) m v (feed ms st (with_budget n sent)) (f (with_budget n sent) v t.second)
        ∙ (smallest_budget ms st sent (settled_is sent m w (feed ms st sent) x s)).smaller n (omega arith)

pub used_up_with : UsedUpPasses
used_up_with sent m w ot ob k e = go (called m ot ob)
  where
    go : Called m → w.answer.passes ≡ sent.budget
    go (refuses r f) = absurd (not_31 r (sym (ap (λ (a : Answer). a.number) (f sent w k).answer) ∙ e))
    go (returns ms st f) =
        let x = f sent w k in
        passes_are sent m w (feed ms st sent) x ∙ used_up_passes ms st sent (sym (number_is sent m w (feed ms st sent) x) ∙ e)

pub used_up_when : UsedUpExact
used_up_when sent m w ms st p f h k =
    let x = k.fed p ms f st h in
    let n = number_is sent m w (feed ms st sent) x in
    let u = used_up_exact ms st sent in
    (λ e. u.0 (sym n ∙ e), λ d. n ∙ u.1 d)

-- The law of specs/Budget: what is shown of the line that the definition makes holds of every history, since there is one.
use mathlib.Core.Path.{◌≡◌, refl, sym, ap, ◌∙◌}
use mathlib.Core.Bool.{Bool}
use mathlib.Core.Logic.{◌↔◌}
use mathlib.Core.List.{List, []}
use Prim.Native.Nat.{ℕ, zero, suc}
use native.Mathlib.Omega.{arith}
use Rattle.macros.specs.Bounds.{most_trace_bytes}
use Rattle.macros.specs.Refusals.WorkRefusal.{budget_used_up}
use Rattle.macros.specs.Macro.{Table}
use Rattle.lines.specs.State.{State}
use Rattle.lines.specs.Line.{Sent, Numbered, Line, passed, refused, newest_first, line_of}
use Rattle.lines.specs.Line.{Line.ended as line_ended}
use Rattle.lines.specs.Trace.{is_on, history_of}
use Rattle.lines.specs.Demand.{pass_count, end_of_line}
use Rattle.lines.specs.Budget.{one_more, BudgetExact}
use Rattle.lines.proofs.BudgetSteps.{Used, from, Next, stops, fails, goes, next}
use Rattle.lines.proofs.Demand3.{line_history}
use Rattle.lines.proofs.OneLaws.{one_line}

-- 31 ends l exactly if k has n passes
abbrev Exact : (l k : Line) → ℕ → Type 0
Exact l k n = (Used (end_of_line l)) ↔ (pass_count k ≡ n)

-- of the lines given
of : {l k m j : Line} {n : ℕ} → l ≡ m → k ≡ j → Exact m j n → Exact l k n
of e f h = (λ u. ap pass_count f ∙ h.0 (sym (ap end_of_line e) ∙ u), λ u. ap end_of_line e ∙ h.1 (sym (ap pass_count f) ∙ u))

module _ (ms : Table) (b : Bool) where
  -- with no budget there is no pass
  no_pass : (room : ℕ) (closed begun : List ℕ) (todo : List Numbered) (st : State) (t : List ℕ) → pass_count (from ms b room closed begun todo st t 0) ≡ 0
  no_pass room closed begun todo st t = go (next ms b room closed begun todo st t)
    where
      go : Next ms b (from ms b room closed begun todo st t) → pass_count (from ms b room closed begun todo st t 0) ≡ 0
      go (stops e f h) = ap pass_count (h 0)
      go (fails x r f z h) = ap pass_count z
      go (goes x k cs bs es s u z h) = ap pass_count z

  exact : (n room : ℕ) (closed begun : List ℕ) (todo : List Numbered) (st : State) (t : List ℕ)
      → Exact (from ms b room closed begun todo st t n) (from ms b room closed begun todo st t (suc n)) (suc n)
  exact zero room closed begun todo st t = go (next ms b room closed begun todo st t)
    where
      go : Next ms b (from ms b room closed begun todo st t) → Exact (from ms b room closed begun todo st t 0) (from ms b room closed begun todo st t 1) 1
      go (stops e f h) = of (h 0) (h 1) (λ u. absurd (f u), λ u. absurd (omega arith))
      go (fails x r f z h) = of z (h 0) (λ u. refl, λ u. refl)
      go (goes x k cs bs es s u z h) = of z (h 0) (λ v. ap suc (no_pass k cs bs es s u), λ v. refl)
  exact (suc n) room closed begun todo st t = go (exact n) (next ms b room closed begun todo st t)
    where
      go : ((k : ℕ) (cs bs : List ℕ) (es : List Numbered) (s : State) (u : List ℕ) → Exact (from ms b k cs bs es s u n) (from ms b k cs bs es s u (suc n)) (suc n))
          → Next ms b (from ms b room closed begun todo st t)
          → Exact (from ms b room closed begun todo st t (suc n)) (from ms b room closed begun todo st t (suc (suc n))) (suc (suc n))
      go ih (stops e f h) = of (h (suc n)) (h (suc (suc n))) (λ u. absurd (f u), λ u. absurd (omega arith))
      go ih (fails x r f z h) = of (h n) (h (suc n)) (λ u. absurd (f u), λ u. absurd (omega arith))
      go ih (goes x k cs bs es s u z h) =
          let g = ih k cs bs es s u in
          of (h n) (h (suc n)) (λ v. ap suc (g.0 v), λ v. g.1 (omega arith))

-- of the line that the definition makes
exact_line : (ms : Table) (st : State) (sent : Sent) → Exact (history_of ms st sent) (history_of ms st (one_more sent)) (suc sent.budget)
unfolding history_of line_of
exact_line ms st sent = exact ms (is_on st.trace) sent.budget most_trace_bytes [] [] (newest_first [] ms) st sent.line

-- THE LAW
pub budget_exact : BudgetExact
budget_exact ms st sent l k h g =
    of (one_line ms st sent l (history_of ms st sent) h (line_history ms st sent h.fits))
    (one_line ms st (one_more sent) k (history_of ms st (one_more sent)) g (line_history ms st (one_more sent) g.fits))
    (exact_line ms st sent)

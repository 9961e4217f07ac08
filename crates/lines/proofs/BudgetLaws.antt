-- The passes are at most the budget, and as many as it where 31 says so; and the law of specs/Budget: 31 comes exactly when one pass more would be made.
use mathlib.Core.Path.{◌≡◌, refl, sym, ap, ◌∙◌}
use mathlib.Core.Bool.{Bool, true, false}
use mathlib.Core.Logic.{◌↔◌}
use mathlib.Core.List.{List, [], ◌∷◌}
use Prim.Native.Nat.{ℕ, zero, suc, ◌≤◌}
use native.Mathlib.Omega.{arith}
use Rattle.macros.specs.Refusals.{WorkRefusal}
use Rattle.macros.specs.Refusals.WorkRefusal.{budget_used_up, trace_too_long}
use Rattle.macros.specs.Macro.{Table}
use Rattle.lines.specs.State.{State}
use Rattle.lines.specs.Replacing.{Work, Done}
use Rattle.lines.specs.Replacing.Done.{bad, good}
use Rattle.lines.specs.Pass.{occurred, outcome}
use Rattle.lines.specs.Line.{Sent, Numbered, Pass, Ending, Line, passed, refused, done, control, newest_first, closed_by}
use Rattle.lines.specs.Line.{is_control, due, pass_of, follow, after_pass, text_of, passes, line_of}
use Rattle.lines.specs.Line.{Line.ended as line_ended}
use Rattle.lines.specs.Demand.{pass_count, end_of_line}
use Rattle.lines.specs.Budget.{one_more}
use Rattle.lines.proofs.OccurLaws.{NoBudget}
use Rattle.lines.proofs.LineLaws.{made_no}

-- THE PASSES ARE WITHIN THE BUDGET

pub record Budgeted (n : ℕ) (l : Line) : Type 0 where
  pub within : pass_count l ≤ n
  pub used_up : end_of_line l ≡ refused budget_used_up → pass_count l ≡ n
  -- no pass of line_of is cut
  pub uncut : end_of_line l ≡ refused trace_too_long → ⊥

pub control_not : (t : List ℕ) (st : State) → control t st ≡ refused budget_used_up → ⊥
control_not t st e = let z : ◌≡◌ {A = ℕ} 0 1 = cc in omega arith

pub done_not : (t : List ℕ) (st : State) → done t st ≡ refused budget_used_up → ⊥
done_not t st e = let z : ◌≡◌ {A = ℕ} 0 1 = cc in omega arith

due_budgeted : (n : ℕ) (b : Bool) (t : List ℕ) (st : State) (todo : List Numbered) (next : Numbered → List Numbered → Line)
    → ((e : Numbered) (es : List Numbered) → Budgeted n (next e es)) → Budgeted n (due b t st todo next)
unfolding due
due_budgeted n true t st todo next h = record { within = omega arith; used_up = λ e. absurd (control_not t st e); uncut = λ e. let z : ◌≡◌ {A = ℕ} 0 1 = cc in omega arith }
due_budgeted n false t st [] next h = record { within = omega arith; used_up = λ e. absurd (done_not t st e); uncut = λ e. let z : ◌≡◌ {A = ℕ} 0 1 = cc in omega arith }
due_budgeted n false t st (e ∷ es) next h = h e es

follow_budgeted : (n : ℕ) (a : Done) (o : Bool) (on again : Work → Line) → NoBudget a → ((w : Work) → Budgeted n (on w)) → ((w : Work) → Budgeted n (again w))
    → Budgeted n (follow a o on again)
unfolding follow
follow_budgeted n (bad r w) o on again h f g = record { within = omega arith; used_up = λ e. absurd (h.0 (cc)); uncut = λ e. h.1 (cc) }
follow_budgeted n (good w) false on again h f g = f w
follow_budgeted n (good w) true on again h f g = g w

after_budgeted : (n : ℕ) (x : Pass) (on again : Work → Line) → Budgeted n (follow (outcome x.events) (occurred x.events) on again) → Budgeted (suc n) (after_pass x on again)
unfolding after_pass
after_budgeted n x on again h = record { within = omega (arith, h.within); used_up = λ e. ap suc (h.used_up e); uncut = h.uncut }

passes_budgeted : (ms : Table) (n : ℕ) (closed begun : List ℕ) (todo : List Numbered) (st : State) (t : List ℕ) → Budgeted n (passes ms n closed begun todo st t)
unfolding passes
passes_budgeted ms zero closed begun todo st t = due_budgeted zero (is_control t) t st todo _ (λ e es. record { within = omega arith; used_up = λ e. refl; uncut = λ e. let z : ◌≡◌ {A = ℕ} 0 1 = cc in omega arith })
passes_budgeted ms (suc n) closed begun todo st t =
    due_budgeted (suc n) (is_control t) t st todo _
    (λ e es. after_budgeted n _ _ _
    (follow_budgeted n (outcome (pass_of begun e t st).events) (occurred (pass_of begun e t st).events) _ _ (made_no begun e t st)
    (λ w. passes_budgeted ms n closed (e.number ∷ begun) es w.state t)
    (λ w. passes_budgeted ms n (closed_by e closed) (e.number ∷ begun) (newest_first (closed_by e closed) ms) w.state (text_of w))))

-- THE LAW
pub line_budgeted : (ms : Table) (st : State) (sent : Sent) → Budgeted sent.budget (line_of ms st sent)
unfolding line_of
line_budgeted ms st sent = passes_budgeted ms sent.budget [] [] (newest_first [] ms) st sent.line

-- A line under every budget, cut where its trace is full: it ends at once, or a pass of it is made wherever the budget has one.
use mathlib.Core.Path.{◌≡◌, refl, ap, ◌∙◌, subst}
use mathlib.Core.Bool.{Bool, true, false}
use mathlib.Core.List.{List, [], ◌∷◌}
use Prim.Native.Nat.{ℕ, suc, ◌-◌}
use native.Mathlib.Omega.{arith}
use lib.Dec.{leb}
use lib.ListN.{length}
use Rattle.macros.specs.Refusals.{WorkRefusal}
use Rattle.macros.specs.Refusals.WorkRefusal.{budget_used_up, trace_too_long}
use Rattle.macros.specs.Macro.{Table}
use Rattle.lines.specs.State.{State}
use Rattle.lines.specs.Replacing.{Work, Done}
use Rattle.lines.specs.Replacing.Done.{bad, good}
use Rattle.lines.specs.Pass.{occurred, outcome}
use Rattle.lines.specs.Line.{Numbered, Pass, Ending, Line, passed, refused, newest_first, closed_by, is_control, text_of, passes}
use Rattle.lines.specs.Line.{Line.ended as line_ended}
use Rattle.lines.specs.Trace.{lines_of, cut_at, cut_if}
use Rattle.lines.proofs.NextLaws.{to_control, to_done, to_used, made, to_refused, to_next, to_again}
use Rattle.lines.proofs.OccurLaws.{NoBudget, OfStep}
use Rattle.lines.proofs.LineLaws.{made_no}
use Rattle.lines.proofs.BudgetLaws.{control_not, done_not}
use Rattle.lines.proofs.TraceSteps.{cut_ended}

-- whether the lines of the pass x fit in the room that is left, whatever follows it
data Cuts (b : Bool) (room : ℕ) (x : Pass) : Type 0 where
  fits : (less : ℕ) → ((l : Line) → cut_if b room (passed x l) ≡ passed x (cut_if b less l)) → Cuts b room x
  full : ((l : Line) → cut_if b room (passed x l) ≡ passed x (line_ended (refused trace_too_long))) → Cuts b room x

cuts : (b : Bool) (room : ℕ) (x : Pass) → Cuts b room x
unfolding cut_if cut_at
cuts false room x = fits room (λ l. refl)
cuts true room x = go (leb (length (lines_of x)) room) refl
  where
    go : (c : Bool) → leb (length (lines_of x)) room ≡ c → Cuts true room x
    go true e = fits (room - length (lines_of x)) (λ l. rw e refl)
    go false e = full (λ l. rw e refl)

-- 31 ends the line
abbrev pub Used : Ending → Type 0
Used e = e ≡ refused budget_used_up

module _ (ms : Table) (b : Bool) where
  -- the line from a moment on, by its budget
  abbrev pub from : (room : ℕ) → (closed begun : List ℕ) → List Numbered → State → List ℕ → ℕ → Line
  from room closed begun todo st t n = cut_if b room (passes ms n closed begun todo st t)

  -- what it does next
  pub data Next (given : ℕ → Line) : Type 0 where
    stops : (e : Ending) → (Used e → ⊥) → ((n : ℕ) → given n ≡ line_ended e) → Next given
    fails : (x : Pass) (r : WorkRefusal) → (Used (refused r) → ⊥) → given 0 ≡ line_ended (refused budget_used_up)
        → ((n : ℕ) → given (suc n) ≡ passed x (line_ended (refused r))) → Next given
    goes : (x : Pass) (room : ℕ) (closed begun : List ℕ) (todo : List Numbered) (st : State) (t : List ℕ) → given 0 ≡ line_ended (refused budget_used_up)
        → ((n : ℕ) → given (suc n) ≡ passed x (from room closed begun todo st t n)) → Next given

  full_not : Used (refused trace_too_long) → ⊥
  full_not e = let z : ◌≡◌ {A = ℕ} 0 1 = cc in omega arith

  step_not : (r : WorkRefusal) → OfStep r → Used (refused r) → ⊥
  step_not r h e = h.0 (cc)

  pub next : (room : ℕ) (closed begun : List ℕ) (todo : List Numbered) (st : State) (t : List ℕ) → Next (from room closed begun todo st t)
  next room closed begun todo st t = go (is_control t) refl todo
    where
      cut : {l k : Line} → l ≡ k → cut_if b room l ≡ cut_if b room k
      cut e = ap (cut_if b room) e

      go : (c : Bool) → is_control t ≡ c → (todo : List Numbered) → Next (from room closed begun todo st t)
      go true c todo = stops _ (control_not t st) (λ n. cut (to_control ms closed begun st t n todo c) ∙ cut_ended b room _)
      go false c [] = stops _ (done_not t st) (λ n. cut (to_done ms closed begun st t n c) ∙ cut_ended b room _)
      go false c (e ∷ es) =
          by (cuts b room x) (outcome x.events) refl (occurred x.events) refl (made_no begun e t st)
        where
          x : Pass
          x = made ms closed begun st t e es c

          none_left : from room closed begun (e ∷ es) st t 0 ≡ line_ended (refused budget_used_up)
          none_left = cut (to_used ms closed begun st t e es c) ∙ cut_ended b room _

          cs : List ℕ
          cs = closed_by e closed

          by : Cuts b room x → (d : Done) → outcome x.events ≡ d → (o : Bool) → occurred x.events ≡ o
              → NoBudget (outcome x.events) → Next (from room closed begun (e ∷ es) st t)
          by (full f) (bad r v) h o g k = fails x trace_too_long full_not none_left (λ n. cut (to_refused ms closed begun st t e es c n r v h) ∙ f _)
          by (full f) (good v) h false g k = fails x trace_too_long full_not none_left (λ n. cut (to_next ms closed begun st t e es c n v h g) ∙ f _)
          by (full f) (good v) h true g k = fails x trace_too_long full_not none_left (λ n. cut (to_again ms closed begun st t e es c n v h g) ∙ f _)
          by (fits less f) (bad r v) h o g k =
              fails x r (step_not r (subst NoBudget h k)) none_left
              (λ n. cut (to_refused ms closed begun st t e es c n r v h) ∙ f _ ∙ ap (passed x) (cut_ended b less (refused r)))
          by (fits less f) (good v) h false g k = goes x less closed (e.number ∷ begun) es v.state t none_left (λ n. cut (to_next ms closed begun st t e es c n v h g) ∙ f _)
          by (fits less f) (good v) h true g k =
              goes x less cs (e.number ∷ begun) (newest_first cs ms) v.state (text_of v) none_left (λ n. cut (to_again ms closed begun st t e es c n v h g) ∙ f _)

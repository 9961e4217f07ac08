-- A history that the trace cuts: its passes hold, it is within its budget, and it is cut exactly where the trace no longer fits.
use Prim.Native.Nat.{ℕ, zero, suc, ◌-◌, ◌≤◌, ◌<◌}
use mathlib.Core.Path.{◌≡◌, refl, sym, ap, ◌∙◌}
use mathlib.Core.Bool.{Bool, true, false}
use mathlib.Core.Logic.{◌↔◌, ◌⊎◌, inl, inr}
use mathlib.Core.List.{List, [], ◌∷◌}
use mathlib.Core.Option.{Option, none, some}
use native.Mathlib.Decide.{dec_le}
use native.Mathlib.Omega.{arith}
use borrow.Author.Tests.{leb-true, leb-false}
use lib.Dec.{leb}
use lib.ListN.{length, length-append}
use Rattle.macros.specs.Bounds.{most_trace_bytes}
use Rattle.macros.specs.Refusals.{WorkRefusal}
use Rattle.macros.specs.Refusals.WorkRefusal.{budget_used_up, trace_too_long}
use Rattle.macros.specs.Macro.{Table}
use Rattle.lines.specs.State.{State}
use Rattle.lines.specs.Replacing.{Work}
use Rattle.lines.specs.Replacing.Done.{bad, good}
use Rattle.lines.specs.Pass.{Walk, ended, occurs, occurred, outcome}
use Rattle.lines.specs.Line.{Sent, Pass, Ending, Line, passed, refused, passes_of, ending, line_of}
use Rattle.lines.specs.Line.{Line.ended as line_ended}
use Rattle.lines.specs.Trace.{lines_if, lines_of, trace_of, cut_at, is_on, cut_if, history_of, trace_if}
use Rattle.lines.specs.Feeding.{tracing}
use Rattle.lines.specs.Steps.{new_line}
use Rattle.lines.specs.Demand.{EndsIn, FailsIn, closed_after, since_after, Passes, pass_count, end_of_line, TraceFits, FitsIf, WritesTrace}
use Rattle.lines.proofs.LineLaws.{either, line_holds}
use Rattle.lines.proofs.BudgetLaws.{Budgeted, line_budgeted}
use Rattle.lines.proofs.KeepLine.{Within}
use Rattle.lines.proofs.KeepTests.{by_elim}
use Rattle.lines.proofs.TellLaws.{trace_told, fits_lines, lines_fit}

-- ONE PASS, AND A CUT BEHIND IT

-- a refused pass has no lines
fails_lines : (x : Pass) (r : WorkRefusal) (v : Work) → FailsIn x.events r v → lines_of x ≡ []
unfolding lines_of outcome lines_if
fails_lines x r v f = go (occurred x.events) (outcomes x.events f)
  where
    outcomes : (k : Walk) → FailsIn k r v → outcome k ≡ bad r v
    outcomes (ended d) e = e
    outcomes (occurs o k) e = outcomes k e

    go : (b : Bool) → outcome x.events ≡ bad r v → lines_if b x (outcome x.events) ≡ []
    go true e = rw e refl
    go false e = refl

module _ (ms : Table) where
  cut_holds : (n : ℕ) (closed since begun t : List ℕ) (st : State) (l : Line) → Passes ms closed since begun t st l → Passes ms closed since begun t st (cut_at n l)
  unfolding cut_at
  cut_holds n closed since begun t st (line_ended e) h = h
  cut_holds n closed since begun t st (passed x l) h =
      (h.0, go (λ v p. cut_holds (n - length (lines_of x)) (closed_after x closed) (since_after x since) (x.which.number ∷ begun) (new_line v) v.state l p) (leb (length (lines_of x)) n) refl)
    where
      rest : Bool → Line
      rest b = elim b [ true ↦ cut_at (n - length (lines_of x)) l | false ↦ line_ended (refused trace_too_long) ]

      cut_end : (r : WorkRefusal) → l ≡ line_ended (refused r) → cut_at (n - length (lines_of x)) l ≡ line_ended (refused r)
      cut_end r e = ap (cut_at (n - length (lines_of x))) e

      go : ((v : Work) → Passes ms (closed_after x closed) (since_after x since) (x.which.number ∷ begun) (new_line v) v.state l → Passes ms (closed_after x closed) (since_after x since) (x.which.number ∷ begun) (new_line v) v.state (cut_at (n - length (lines_of x)) l))
          → (b : Bool) → leb (length (lines_of x)) n ≡ b
          → ((v : Work) × EndsIn x.events v × Passes ms (closed_after x closed) (since_after x since) (x.which.number ∷ begun) (new_line v) v.state (rest b))
          ⊎ ((r : WorkRefusal) × (v : Work) × FailsIn x.events r v × (rest b ≡ line_ended (refused r)))
          ⊎ ((v : Work) × EndsIn x.events v × (rest b ≡ line_ended (refused trace_too_long)))
      go ih true q =
          either h.1 (λ u. inl (u.0, u.1, ih u.0 u.2))
          (λ y. either y (λ u. inr (inl (u.0, u.1, u.2, cut_end u.0 u.3))) (λ u. inr (inr (u.0, u.1, cut_end trace_too_long u.2))))
      go ih false q =
          either h.1 (λ u. inr (inr (u.0, u.1, refl)))
          (λ y. either y
          (λ u. let e : length (lines_of x) ≡ 0 = ap length (fails_lines x u.0 u.1 u.2) in let f = leb-false (length (lines_of x)) n q in absurd (omega arith))
          (λ u. inr (inr (u.0, u.1, refl))))

-- a history that does not end with 36 is as it was
pub cut_same : (n : ℕ) (l : Line) → (ending (cut_at n l) ≡ refused trace_too_long → ⊥) → cut_at n l ≡ l
unfolding cut_at ending
cut_same n (line_ended e) h = refl
cut_same n (passed x l) h = go (cut_same (n - length (lines_of x)) l) (leb (length (lines_of x)) n) h
  where
    go : ((ending (cut_at (n - length (lines_of x)) l) ≡ refused trace_too_long → ⊥) → cut_at (n - length (lines_of x)) l ≡ l) → (b : Bool)
        → (ending (passed x (elim b [ true ↦ cut_at (n - length (lines_of x)) l | false ↦ line_ended (refused trace_too_long) ])) ≡ refused trace_too_long → ⊥)
        → passed x (elim b [ true ↦ cut_at (n - length (lines_of x)) l | false ↦ line_ended (refused trace_too_long) ]) ≡ passed x l
    go f true k = ap (passed x) (f k)
    go f false k = absurd (k refl)

cut_budgeted : (k n : ℕ) (l : Line) → Budgeted n l → (pass_count (cut_at k l) ≤ n) × (end_of_line (cut_at k l) ≡ refused budget_used_up → pass_count (cut_at k l) ≡ n)
unfolding cut_at
cut_budgeted k n (line_ended e) h = (h.within, h.used_up)
cut_budgeted k n (passed x l) h =
    let less : Budgeted (n - 1) l = record { within = omega (arith, h.within); used_up = λ e. omega (arith, h.used_up e); uncut = h.uncut } in
    go (cut_budgeted (k - length (lines_of x)) (n - 1) l less) (leb (length (lines_of x)) k)
  where
    rest : Bool → Line
    rest b = elim b [ true ↦ cut_at (k - length (lines_of x)) l | false ↦ line_ended (refused trace_too_long) ]

    go : (pass_count (cut_at (k - length (lines_of x)) l) ≤ n - 1) × (end_of_line (cut_at (k - length (lines_of x)) l) ≡ refused budget_used_up → pass_count (cut_at (k - length (lines_of x)) l) ≡ n - 1)
        → (b : Bool) → (suc (pass_count (rest b)) ≤ n) × (end_of_line (rest b) ≡ refused budget_used_up → suc (pass_count (rest b)) ≡ n)
    go w true = (omega (arith, w.0, h.within), λ e. omega (arith, w.1 e, h.within))
    go w false = (omega (arith, h.within), λ e. absurd (let z : ◌≡◌ {A = ℕ} 0 1 = cc in omega arith))

cut_fits : (n : ℕ) (l : Line) → (end_of_line l ≡ refused trace_too_long → ⊥) → TraceFits n (cut_at n l)
unfolding cut_at
cut_fits n (line_ended e) h = h
cut_fits n (passed x l) h = lines_fit n x _ (go (cut_fits (n - length (lines_of x)) l h) (leb (length (lines_of x)) n) refl)
  where
    rest : Bool → Line
    rest b = elim b [ true ↦ cut_at (n - length (lines_of x)) l | false ↦ line_ended (refused trace_too_long) ]

    go : TraceFits (n - length (lines_of x)) (cut_at (n - length (lines_of x)) l) → (b : Bool) → leb (length (lines_of x)) n ≡ b
        → ((length (lines_of x) ≤ n) × TraceFits (n - length (lines_of x)) (rest b)) ⊎ ((n < length (lines_of x)) × (rest b ≡ line_ended (refused trace_too_long)))
    go ih true q = inl (leb-true (length (lines_of x)) n q, ih)
    go ih false q = inr (leb-false (length (lines_of x)) n q, refl)

cut_within : (k n : ℕ) (l : Line) → Within n l → Within n (cut_at k l)
unfolding cut_at ending passes_of
cut_within k n (line_ended e) h = h
cut_within k n (passed x l) h = go (cut_within (k - length (lines_of x)) (n - 1) l (record { ends = h.ends; count = omega (arith, h.count) })) (leb (length (lines_of x)) k)
  where
    go : Within (n - 1) (cut_at (k - length (lines_of x)) l) → (b : Bool)
        → Within n (passed x (elim b [ true ↦ cut_at (k - length (lines_of x)) l | false ↦ line_ended (refused trace_too_long) ]))
    go w true = record { ends = w.ends; count = omega (arith, w.count, h.count) }
    go w false = record { ends = tt; count = omega (arith, h.count) }

-- what a history that fits says of its passes, n bytes being left
pub fits_exact : (n : ℕ) (l : Line) → TraceFits n l → (end_of_line l ≡ refused trace_too_long) ↔ (n < length (trace_of (passes_of l)))
unfolding passes_of trace_of
fits_exact n (line_ended e) h = (λ q. absurd (h q), λ q. absurd (omega arith))
fits_exact n (passed x l) h =
    let s = length-append (lines_of x) (trace_of (passes_of l)) in
    either (fits_lines n x l h)
    (λ u.
    let ih = fits_exact (n - length (lines_of x)) l u.1 in
    let f = u.0 in
    (λ q. let k = ih.0 q in omega arith, λ q. ih.1 (omega arith)))
    (λ u.
    let f = u.0 in
    (λ q. omega arith, λ q. ap end_of_line u.1))

-- THE HISTORY OF A LINE

by_cut : (P : Line → Type 0) (b : Bool) (n : ℕ) (l : Line) → (b ≡ false → P l) → (b ≡ true → P (cut_at n l)) → P (cut_if b n l)
unfolding cut_if
by_cut P true n l f g = g refl
by_cut P false n l f g = f refl

module _ (ms : Table) (st : State) (sent : Sent) where
  pub history_holds : Passes ms [] [] [] sent.line st (history_of ms st sent)
  unfolding history_of
  history_holds =
      by_cut (Passes ms [] [] [] sent.line st) (is_on st.trace) most_trace_bytes (line_of ms st sent) (λ e. line_holds ms st sent)
      (λ e. cut_holds ms most_trace_bytes [] [] [] sent.line st (line_of ms st sent) (line_holds ms st sent))

  pub history_budgeted : (pass_count (history_of ms st sent) ≤ sent.budget) × (end_of_line (history_of ms st sent) ≡ refused budget_used_up → pass_count (history_of ms st sent) ≡ sent.budget)
  unfolding history_of
  history_budgeted =
      by_cut (λ l. (pass_count l ≤ sent.budget) × (end_of_line l ≡ refused budget_used_up → pass_count l ≡ sent.budget)) (is_on st.trace) most_trace_bytes (line_of ms st sent)
      (λ e. ((line_budgeted ms st sent).within, (line_budgeted ms st sent).used_up))
      (λ e. cut_budgeted most_trace_bytes sent.budget (line_of ms st sent) (line_budgeted ms st sent))

  pub history_traces : FitsIf st.trace most_trace_bytes (history_of ms st sent)
  unfolding history_of is_on cut_if
  history_traces = go st.trace
    where
      go : (f : ℕ) → FitsIf f most_trace_bytes (cut_if (is_on f) most_trace_bytes (line_of ms st sent))
      go zero = (line_budgeted ms st sent).uncut
      go (suc f) = cut_fits most_trace_bytes (line_of ms st sent) (line_budgeted ms st sent).uncut

  pub history_within : Within sent.budget (line_of ms st sent) → Within sent.budget (history_of ms st sent)
  unfolding history_of
  history_within h = by_cut (Within sent.budget) (is_on st.trace) most_trace_bytes (line_of ms st sent) (λ e. h) (λ e. cut_within most_trace_bytes sent.budget (line_of ms st sent) h)

-- the trace that is written
pub written : (old : State) (l : Line) → WritesTrace old.trace l (tracing old (passes_of l))
unfolding tracing is_on trace_if
written old l = go old.trace
  where
    go : (f : ℕ) → WritesTrace f l (trace_if (is_on f) (passes_of l))
    go zero = refl
    go (suc f) = (trace_of (passes_of l), trace_told l, refl)

-- and its length, if it is written and 36 does not come
pub written_within : (old : State) (l : Line) → FitsIf old.trace most_trace_bytes l → (end_of_line l ≡ refused trace_too_long → ⊥) → (s : List ℕ)
    → tracing old (passes_of l) ≡ some s → length s ≤ most_trace_bytes
unfolding tracing is_on trace_if
written_within old l f n s e = go old.trace f e
  where
    go : (b : ℕ) → FitsIf b most_trace_bytes l → trace_if (is_on b) (passes_of l) ≡ some s → length s ≤ most_trace_bytes
    go zero f e = absurd (let z : ◌≡◌ {A = ℕ} 0 1 = cc in omega arith)
    go (suc b) f e =
        let q : trace_of (passes_of l) ≡ s = cc in
        by (dec_le (suc most_trace_bytes) (length (trace_of (passes_of l)))) q
      where
        by : Dec (suc most_trace_bytes ≤ length (trace_of (passes_of l))) → trace_of (passes_of l) ≡ s → length s ≤ most_trace_bytes
        by (yes h) q = absurd (n ((fits_exact most_trace_bytes l f).1 h))
        by (no h) q = let z : length (trace_of (passes_of l)) ≡ length s = ap length q in omega arith

-- 36 comes exactly where the trace no longer fits.
use Prim.Native.Nat.{ℕ, zero, suc, ◌+◌, ◌-◌, ◌≤◌, ◌<◌}
use mathlib.Core.Path.{◌≡◌, refl, sym, ap, ◌∙◌, subst}
use mathlib.Core.Bool.{Bool, true, false}
use mathlib.Core.Logic.{◌↔◌}
use mathlib.Core.List.{List, [], ◌∷◌, ◌++◌}
use native.Mathlib.Omega.{arith}
use lib.ListN.{length, length-append}
use Rattle.macros.specs.Bounds.{most_trace_bytes}
use Rattle.macros.specs.Refusals.{number, work_number}
use Rattle.macros.specs.Refusals.Refusal.{of_work}
use Rattle.macros.specs.Refusals.WorkRefusal.{trace_too_long}
use Rattle.macros.specs.Macro.{Table}
use Rattle.lines.specs.State.{State}
use Rattle.lines.specs.Line.{Sent, Line, Ending, passes_of, ending}
use Rattle.lines.specs.Line.Line.{ended, passed}
use Rattle.lines.specs.Line.Ending.{refused}
use Rattle.lines.specs.Trace.{lines_of, trace_of, cut_at, cut_if, history_of}
use Rattle.lines.specs.Feeding.{Kind, Answer, number_of, refusal, answered, answer, feed}
use Rattle.lines.specs.Demand.{end_of_line, Fits, TraceFits, FitsIf, ByKind}
use Rattle.lines.proofs.LineLaws.{either, end_of_line_lem}
use Rattle.lines.proofs.TellLaws.{fits_lines, trace_told, trace_same}
use Rattle.lines.proofs.TraceLaws.{cut_same, fits_exact}
use Rattle.lines.proofs.NumberLaws.{is_36}
use Rattle.lines.proofs.Demand3.{line_history, fed_line}
use Rattle.lines.proofs.OneLaws.{one_line}
use Rattle.lines.proofs.AnswerLaws.{feed_runs}
use Rattle.m_traces.specs.Traced.{TraceOver, TooLongExact, but_last, FirstSuch}

-- 36 FOR A LINE THAT IS FED

full_number : (ms : Table) (st : State) (sent : Sent) → Fits sent → ending (history_of ms st sent) ≡ refused trace_too_long → number_of (feed ms st sent).kind ≡ 36
unfolding answer answered refusal number_of number work_number
full_number ms st sent f u =
    ap (λ (a : Answer). number_of a.kind) (feed_runs ms st sent f) ∙ ap (λ (e : Ending). number_of (answered ms st (passes_of (history_of ms st sent)) e).kind) u

flag_on : (n : ℕ) (l : Line) → FitsIf n most_trace_bytes l → end_of_line l ≡ refused trace_too_long → (n ≡ 0 → ⊥) × (most_trace_bytes < length (trace_of (passes_of l)))
flag_on zero l f e = absurd (f e)
flag_on (suc n) l f e = (λ z. omega arith, (fits_exact most_trace_bytes l f).0 e)

ends_36 : (n : ℕ) (l : Line) → FitsIf n most_trace_bytes l → (n ≡ 0 → ⊥) → most_trace_bytes < length (trace_of (passes_of l)) → end_of_line l ≡ refused trace_too_long
ends_36 zero l f o h = absurd (o refl)
ends_36 (suc n) l f o h = (fits_exact most_trace_bytes l f).1 h

-- THE LAW
pub too_long_exact : TooLongExact
too_long_exact ms st sent = (over, full)
  where
    over : number_of (feed ms st sent).kind ≡ 36 → TraceOver ms st sent
    over e =
        let w = fed_line ms st sent in
        let h = subst (λ (x : Kind). ByKind ms st sent w.0 (feed ms st sent) x) (is_36 (feed ms st sent).kind e) w.1 in
        let g = flag_on st.trace w.0 h.2.0.history.traces h.2.1 in
        record { on = g.0; passes = w.0; trace = trace_of (passes_of w.0); history = h.2.0.history; told = trace_told w.0; over = g.1 }

    full : TraceOver ms st sent → number_of (feed ms st sent).kind ≡ 36
    full d =
        let s : d.trace ≡ trace_of (passes_of d.passes) = trace_same d.passes d.trace d.told in
        let e = ends_36 st.trace d.passes d.history.traces d.on (subst (λ (x : List ℕ). most_trace_bytes < length x) s d.over) in
        let l = one_line ms st sent d.passes (history_of ms st sent) d.history (line_history ms st sent d.history.fits) in
        full_number ms st sent d.history.fits (end_of_line_lem (history_of ms st sent) ∙ ap end_of_line (sym l) ∙ e)

first_such : (n : ℕ) (l : Line) (e : Ending) → TraceFits n l → length (trace_of (passes_of (but_last e l))) ≤ n
unfolding passes_of trace_of
first_such n (ended d) e h = omega arith
first_such n (passed x (ended d)) e h = omega arith
first_such n (passed x (passed y l)) e h =
    let s = length-append (lines_of x) (trace_of (passes_of (but_last e (passed y l)))) in
    either (fits_lines n x (passed y l) h)
    (λ u.
    let ih = first_such (n - length (lines_of x)) (passed y l) e u.1 in
    let f = u.0 in
    omega arith)
    (λ u. absurd (let q = u.1 in let w : ◌≡◌ {A = ℕ} 0 1 = cc in omega arith))

-- THE LAW
pub first : FirstSuch
first ms st sent n e l t d h i =
    let f : TraceFits most_trace_bytes l = subst (λ (k : ℕ). FitsIf k most_trace_bytes l) e h.traces in
    let g = first_such most_trace_bytes l d f in
    subst (λ (s : List ℕ). length s ≤ most_trace_bytes) (sym (trace_same (but_last d l) t i)) g

-- UNCUT

pub uncut : (b : Bool) (n : ℕ) (l : Line) → (end_of_line (cut_if b n l) ≡ refused trace_too_long → ⊥) → cut_if b n l ≡ l
unfolding cut_if
uncut true n l h = cut_same n l (λ e. h (sym (end_of_line_lem (cut_at n l)) ∙ e))
uncut false n l h = refl

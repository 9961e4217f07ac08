-- The laws of specs/LargerBudget: first of the passes of a line, then of the line that is fed.
use mathlib.Core.Path.{◌≡◌, refl, sym, ap, ◌∙◌, subst}
use mathlib.Core.Bool.{Bool, true, false}
use mathlib.Core.Logic.{◌↔◌}
use mathlib.Core.List.{List, [], ◌∷◌}
use Prim.Native.Nat.{ℕ, zero, suc, ◌+◌, ◌-◌, ◌≤◌, ◌<◌}
use native.Mathlib.Omega.{arith}
use borrow.Author.Tests.{leb-true, leb-false}
use lib.Dec.{leb}
use lib.ListN.{length}
use Rattle.macros.specs.Bounds.{most_line_bytes, most_budget, most_trace_bytes}
use Rattle.macros.specs.Refusals.{WorkRefusal, Refusal, host_number, line_number, file_number, work_number, number}
use Rattle.macros.specs.Refusals.Refusal.{of_host, of_line, of_file, of_work}
use Rattle.macros.specs.Refusals.HostRefusal.{bad_memory, bad_table, bad_state, budget_too_large}
use Rattle.macros.specs.Refusals.LineRefusal.{line_too_long, bad_byte, bad_control}
use Rattle.macros.specs.Refusals.FileRefusal.{file_too_long, zero_byte, incomplete, bad_class, no_unit, bad_brace, bad_call, no_element, macro_too_long, too_many_macros}
use Rattle.macros.specs.Refusals.WorkRefusal.{budget_used_up, new_line_too_long, tag_too_long, pointer_too_high, counter_too_high, trace_too_long}
use Rattle.macros.specs.Macro.{Table}
use Rattle.lines.specs.State.{State}
use Rattle.lines.specs.Line.{Sent, Numbered, Pass, Ending, Line, passed, refused, done, control, newest_first, line_of, passes_of, ending}
use Rattle.lines.specs.Line.{Line.ended as line_ended}
use Rattle.lines.specs.Trace.{is_on, history_of}
use Rattle.lines.specs.Feeding.{Kind, refused_with, out, withheld, controlled, Answer, number_of, refusal, of_order, answered, answer, has_bad_byte, feed}
use Rattle.lines.specs.Feeding.{Order, wrong, orders, order_of}
use Rattle.lines.specs.Demand.{pass_count, end_of_line, HasBadByte, Fits, History, ByKind}
use Rattle.lines.specs.LargerBudget.{with_budget, Settled, LargerBudget, Smallest, SmallestBudget, StillDue, UsedUpExact, UsedUpPasses}
use Rattle.lines.proofs.NumberLaws.{is_31}
use Rattle.lines.proofs.BudgetSteps.{Used, from, Next, stops, fails, goes, next}
use Rattle.lines.proofs.LineLaws.{pass_count_lem, end_of_line_lem}
use Rattle.lines.proofs.TraceLaws.{history_budgeted}
use Rattle.lines.proofs.Demand3.{bad_byte_lem, no_bad_byte, line_history, fed_holds}
use Rattle.lines.proofs.OneLaws.{one_line}
use Rattle.lines.proofs.AnswerLaws.{feed_costly, feed_long, feed_bad, feed_runs}

-- OF THE PASSES

abbrev count : Line → ℕ
count l = length (passes_of l)

-- of the lines given by each budget, where 31 does not end that of n: with k more, with its own passes as the budget, and with fewer
record Least (given : ℕ → Line) (n : ℕ) : Type 0 where
  more : (k : ℕ) → given (n + k) ≡ given n
  own : given (count (given n)) ≡ given n
  fewer : (k : ℕ) → k < count (given n) → Used (ending (given k))

-- a line without a pass, whatever the budget
ends_at_once : (given : ℕ → Line) (n : ℕ) (e : Ending) → ((k : ℕ) → given k ≡ line_ended e) → Least given n
unfolding passes_of
ends_at_once given n e h =
    record {
      more = λ k. h (n + k) ∙ sym (h n);
      own = h (count (given n)) ∙ sym (h n);
      fewer = λ k l. absurd (let z : count (given n) ≡ 0 = ap count (h n) in omega arith);
    }

-- a pass, and then the line of one budget less
one_pass : (given rest : ℕ → Line) (n : ℕ) (x : Pass) → given 0 ≡ line_ended (refused budget_used_up) → ((k : ℕ) → given (suc k) ≡ passed x (rest k))
    → Least rest n → Least given (suc n)
unfolding passes_of ending
one_pass given rest n x none step h =
    record {
      more = λ k. ap given (let z : suc n + k ≡ suc (n + k) = omega arith in z) ∙ step (n + k) ∙ ap (passed x) (h.more k) ∙ sym (step n);
      own = ap given counted ∙ step (count (rest n)) ∙ ap (passed x) h.own ∙ sym (step n);
      fewer = fewer;
    }
  where
    counted : count (given (suc n)) ≡ suc (count (rest n))
    counted = ap count (step n)

    fewer : (k : ℕ) → k < count (given (suc n)) → Used (ending (given k))
    fewer zero l = ap ending none
    fewer (suc k) l = ap ending (step k) ∙ h.fewer k (omega (arith, counted))

module _ (ms : Table) (b : Bool) where
  abbrev Law : ℕ → Type 0
  Law n =
      (room : ℕ) (closed begun : List ℕ) (todo : List Numbered) (st : State) (t : List ℕ) → (Used (ending (from ms b room closed begun todo st t n)) → ⊥)
      → Least (from ms b room closed begun todo st t) n

  law : (n : ℕ) → Law n
  unfolding ending
  law zero room closed begun todo st t free = go (next ms b room closed begun todo st t)
    where
      go : Next ms b (from ms b room closed begun todo st t) → Least (from ms b room closed begun todo st t) 0
      go (stops e f h) = ends_at_once (from ms b room closed begun todo st t) 0 e h
      go (fails x r f z h) = absurd (free (ap ending z))
      go (goes x k cs bs es s u z h) = absurd (free (ap ending z))
  law (suc n) room closed begun todo st t free = go (law n) (next ms b room closed begun todo st t)
    where
      go : Law n → Next ms b (from ms b room closed begun todo st t) → Least (from ms b room closed begun todo st t) (suc n)
      go ih (stops e f h) = ends_at_once (from ms b room closed begun todo st t) (suc n) e h
      go ih (fails x r f z h) =
          one_pass (from ms b room closed begun todo st t) (λ (k : ℕ). line_ended (refused r)) n x z h
          (ends_at_once (λ (k : ℕ). line_ended (refused r)) n (refused r) (λ k. refl))
      go ih (goes x k cs bs es s u z h) =
          one_pass (from ms b room closed begun todo st t) (from ms b k cs bs es s u) n x z h (ih k cs bs es s u (λ v. free (ap ending (h n) ∙ v)))

-- OF THE LINE THAT IS FED

module _ (ms : Table) (st : State) (sent : Sent) where
  line_law : (Used (ending (history_of ms st sent)) → ⊥) → Least (λ (n : ℕ). history_of ms st (with_budget n sent)) sent.budget
  unfolding history_of line_of
  line_law h = law ms (is_on st.trace) sent.budget most_trace_bytes [] [] (newest_first [] ms) st sent.line h

-- what is looked at before the passes
data Looked (sent : Sent) : Type 0 where
  costly : most_budget < sent.budget → Looked sent
  long : sent.budget ≤ most_budget → most_line_bytes < length sent.line → Looked sent
  unclean : sent.budget ≤ most_budget → length sent.line ≤ most_line_bytes → HasBadByte sent.line → Looked sent
  plain : Fits sent → Looked sent

looked : (sent : Sent) → Looked sent
looked sent = by_budget (leb sent.budget most_budget) refl
  where
    by_bytes : sent.budget ≤ most_budget → length sent.line ≤ most_line_bytes → (b : Bool) → has_bad_byte sent.line ≡ b → Looked sent
    by_bytes f s true e = unclean f s (bad_byte_lem sent.line e)
    by_bytes f s false e = plain (record { few = f; short = s; clean = no_bad_byte sent.line e })

    by_length : sent.budget ≤ most_budget → (b : Bool) → leb (length sent.line) most_line_bytes ≡ b → Looked sent
    by_length f true e = by_bytes f (leb-true (length sent.line) most_line_bytes e) (has_bad_byte sent.line) refl
    by_length f false e = long f (leb-false (length sent.line) most_line_bytes e)

    by_budget : (b : Bool) → leb sent.budget most_budget ≡ b → Looked sent
    by_budget true e = by_length (leb-true sent.budget most_budget e) (leb (length sent.line) most_line_bytes) refl
    by_budget false e = costly (leb-false sent.budget most_budget e)

fits_with : (n : ℕ) (sent : Sent) → n ≤ most_budget → Fits sent → Fits (with_budget n sent)
fits_with n sent l f = record { few = l; short = f.short; clean = f.clean }

-- a line that 31 ends is answered with 31
used_number : (ms : Table) (st : State) (sent : Sent) → Fits sent → Used (ending (history_of ms st sent)) → number_of (feed ms st sent).kind ≡ 31
unfolding answer answered refusal number_of number work_number
used_number ms st sent f u =
    ap (λ (a : Answer). number_of a.kind) (feed_runs ms st sent f)
    ∙ ap (λ (e : Ending). number_of (answered ms st (passes_of (history_of ms st sent)) e).kind) u

4-number : (ms : Table) (st : State) (sent : Sent) → most_budget < sent.budget → number_of (feed ms st sent).kind ≡ 4
unfolding refusal number_of number host_number
4-number ms st sent l = ap (λ (a : Answer). number_of a.kind) (feed_costly ms st sent l)

-- THE LAW
pub larger_budget : LargerBudget
larger_budget ms st sent settled n l k = go (looked sent)
  where
    go : Looked sent → feed ms st (with_budget n sent) ≡ feed ms st sent
    go (costly c) = absurd (settled.0 (4-number ms st sent c))
    go (long f s) = feed_long ms st (with_budget n sent) k s ∙ sym (feed_long ms st sent f s)
    go (unclean f s b) = feed_bad ms st (with_budget n sent) k s b ∙ sym (feed_bad ms st sent f s b)
    go (plain f) =
        let h = line_law ms st sent (λ u. settled.1 (used_number ms st sent f u)) in
        let z : sent.budget + (n - sent.budget) ≡ n = omega arith in
        feed_runs ms st (with_budget n sent) (fits_with n sent k f)
        ∙ ap (answer ms st) (ap (λ (j : ℕ). history_of ms st (with_budget j sent)) (sym z) ∙ h.more (n - sent.budget))
        ∙ sym (feed_runs ms st sent f)

-- the passes that an answer carries
order_passes : (ms : Table) (st : State) (xs : List Pass) (o : Order) → (of_order ms st xs o).passes ≡ length xs
unfolding of_order refusal
order_passes ms st xs (wrong r) = refl
order_passes ms st xs (orders ks x) = refl

answered_passes : (ms : Table) (st : State) (xs : List Pass) (e : Ending) → (answered ms st xs e).passes ≡ length xs
unfolding answered refusal
answered_passes ms st xs (refused r) = refl
answered_passes ms st xs (done t x) = refl
answered_passes ms st xs (control t x) = order_passes ms st xs (order_of ms x t)

passes_of_lem : (ms : Table) (st : State) (sent : Sent) → Fits sent → (feed ms st sent).passes ≡ count (history_of ms st sent)
unfolding answer
passes_of_lem ms st sent f =
    ap (λ (a : Answer). a.passes) (feed_runs ms st sent f)
    ∙ answered_passes ms st (passes_of (history_of ms st sent)) (ending (history_of ms st sent))

-- an answer before any pass, which the budget 0 gives too
at_start_lem : (ms : Table) (st : State) (sent : Sent) (r : Refusal) → feed ms st sent ≡ refusal ms st 0 r → feed ms st (with_budget 0 sent) ≡ refusal ms st 0 r
    → Smallest ms st sent (feed ms st sent)
unfolding refusal
at_start_lem ms st sent r e f =
    let z : (feed ms st sent).passes ≡ 0 = ap (λ (a : Answer). a.passes) e in
    record { gives = ap (λ (n : ℕ). feed ms st (with_budget n sent)) z ∙ f ∙ sym e; smaller = λ n l. absurd (omega arith) }

-- THE LAW
pub smallest_budget : SmallestBudget
smallest_budget ms st sent settled = go (looked sent)
  where
    of_line_lem : Fits sent → Smallest ms st sent (feed ms st sent)
    of_line_lem f =
        record {
          gives =
              ap (λ (n : ℕ). feed ms st (with_budget n sent)) p
              ∙ feed_runs ms st (with_budget c sent) (fits_with c sent (omega (arith, within)) f) ∙ ap (answer ms st) h.own ∙ sym (feed_runs ms st sent f);
          smaller = λ n l. used_number ms st (with_budget n sent) (fits_with n sent (omega (arith, within, p, l)) f) (h.fewer n (omega (arith, p, l)));
        }
      where
        c : ℕ
        c = count (history_of ms st sent)

        p : (feed ms st sent).passes ≡ c
        p = passes_of_lem ms st sent f

        h : Least (λ (n : ℕ). history_of ms st (with_budget n sent)) sent.budget
        h = line_law ms st sent (λ u. settled.1 (used_number ms st sent f u))

        within : c ≤ most_budget
        within =
            let a = (history_budgeted ms st sent).0 in
            let b : c ≡ pass_count (history_of ms st sent) = pass_count_lem (history_of ms st sent) in
            let d = f.few in
            omega arith

    go : Looked sent → Smallest ms st sent (feed ms st sent)
    go (costly c) = absurd (settled.0 (4-number ms st sent c))
    go (long f s) = at_start_lem ms st sent (of_line line_too_long) (feed_long ms st sent f s) (feed_long ms st (with_budget 0 sent) (omega arith) s)
    go (unclean f s b) = at_start_lem ms st sent (of_line bad_byte) (feed_bad ms st sent f s b) (feed_bad ms st (with_budget 0 sent) (omega arith) s b)
    go (plain f) = of_line_lem f

-- 31 ITSELF

still_due : (ms : Table) (st : State) (sent : Sent) → number_of (feed ms st sent).kind ≡ 31 → StillDue ms st sent
still_due ms st sent e =
    let l : Line = history_of ms st sent in
    let z = subst (λ (k : Kind). ByKind ms st sent l (feed ms st sent) k) (is_31 (feed ms st sent).kind e) (fed_holds ms st sent) in
    let h = z.2.0.history in
    record { fits = h.fits; history = l; passes = h.passes; begun = h.used_up z.2.1; due = z.2.1; traces = h.traces }

due_31 : (ms : Table) (st : State) (sent : Sent) → StillDue ms st sent → number_of (feed ms st sent).kind ≡ 31
due_31 ms st sent d =
    let n = d.begun in
    let h : History ms st sent d.history = record { fits = d.fits; passes = d.passes; within = omega arith; used_up = λ e. d.begun; traces = d.traces } in
    let l = one_line ms st sent d.history (history_of ms st sent) h (line_history ms st sent d.fits) in
    used_number ms st sent d.fits (end_of_line_lem (history_of ms st sent) ∙ ap end_of_line (sym l) ∙ d.due)

-- THE LAW
pub used_up_exact : UsedUpExact
used_up_exact ms st sent = (still_due ms st sent, due_31 ms st sent)

pub used_up_passes : UsedUpPasses
used_up_passes ms st sent e =
    let d = still_due ms st sent e in
    let h : History ms st sent d.history = record { fits = d.fits; passes = d.passes; within = (let n = d.begun in omega arith); used_up = λ e. d.begun; traces = d.traces } in
    let l = one_line ms st sent d.history (history_of ms st sent) h (line_history ms st sent d.fits) in
    passes_of_lem ms st sent d.fits ∙ pass_count_lem (history_of ms st sent) ∙ ap pass_count (sym l) ∙ d.begun

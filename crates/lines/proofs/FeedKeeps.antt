-- A line that is fed, and a list of them, keep what specs/FeedKeeps says.
use Prim.Native.Nat.{ℕ, ◌≤◌}
use mathlib.Core.Path.{◌≡◌, refl, ◌∙◌}
use mathlib.Core.Bool.{Bool, true, false, ◌||◌}
use mathlib.Core.Logic.{◌≢◌}
use mathlib.Core.List.{List, [], ◌∷◌}
use mathlib.Core.Option.{some}
use native.Mathlib.Omega.{arith}
use borrow.Author.Tests.{leb-true, eqb-false}
use lib.Dec.{leb, eqb}
use lib.ListN.{length}
use Rattle.macros.specs.Bounds.{most_line_bytes, most_budget, most_trace_bytes}
use Rattle.macros.specs.Refusals.Refusal.{of_host, of_line, of_work}
use Rattle.macros.specs.Refusals.HostRefusal.{budget_too_large}
use Rattle.macros.specs.Refusals.LineRefusal.{line_too_long, bad_byte}
use Rattle.macros.specs.Refusals.WorkRefusal.{trace_too_long}
use Rattle.macros.specs.Macro.{Table}
use Rattle.macros.specs.Formed.{Bytes, Octets}
use Rattle.macros.specs.Accepted.{Accepted}
use Rattle.macros.proofs.Laws.{each_spellable}
use Rattle.lines.specs.State.{State, AllOf, InRange, fresh}
use Rattle.lines.specs.Line.{Sent, Pass, Ending, Line, passes_of, had_occurrence, ending, line_of}
use Rattle.lines.specs.Trace.{history_of}
use Rattle.lines.specs.Line.Ending.{refused, done, control}
use Rattle.lines.specs.Feeding.{Order, order_of, kind_of_done, tracing, of_order, answered, answer, has_bad_byte, feed, feeds}
use Rattle.lines.specs.Feeding.Order.{wrong, orders}
use Rattle.lines.specs.Feeding.Kind.{controlled}
use Rattle.lines.specs.Demand.{FitsIf}
use Rattle.lines.specs.FeedKeeps.{Kept, FeedKeeps, EachKept, FeedsKeep}
use Rattle.lines.proofs.KeepState.{fresh_in_range}
use Rattle.lines.proofs.KeepTests.{by_elim}
use Rattle.lines.proofs.KeepAnswers.{host_number_lem, line_number_lem, work_number_lem, done_taken, refusal_kept, taken_kept}
use Rattle.lines.proofs.KeepOrders.{GoodOrder, order_good}
use Rattle.lines.proofs.KeepLine.{GoodEnding, Within, line_within}
use Rattle.lines.proofs.TraceLaws.{history_within, history_traces, written_within}
use Rattle.lines.proofs.LineLaws.{end_of_line_lem}

-- a line without a bad byte has no byte 0
not_bad : (c d x : Bool) → (elim (c || d) [ true ↦ true | false ↦ x ]) ≡ false → (c ≡ false) × (x ≡ false)
not_bad true d x e = (e, cc)
not_bad false true x e = (refl, cc)
not_bad false false x e = (refl, e)

no_zero : (t : List ℕ) → has_bad_byte t ≡ false → Octets t → Bytes t
unfolding has_bad_byte
no_zero [] e h = tt
no_zero (b ∷ t) e h =
    let g = not_bad (eqb b 0) (eqb b 10) (has_bad_byte t) e in
    let z : b ≢ 0 = eqb-false b 0 g.0 in
    ((omega arith, h.0), no_zero t g.1 h.1)

-- the answers to a line that was fed to the table ms and the state st
module _ (ms : Table) (st : State) (sent : Sent) (a : Accepted ms) (i : InRange st) where
  -- the trace of the passes xs fits
  abbrev TraceWithin : List Pass → Type 0
  TraceWithin xs = (s : List ℕ) → tracing st xs ≡ some s → length s ≤ most_trace_bytes

  order_kept : (xs : List Pass) (o : Order) → length xs ≤ sent.budget → GoodOrder o → TraceWithin xs → Kept ms st sent (of_order ms st xs o)
  unfolding of_order
  order_kept xs (wrong r) h g b = refusal_kept (length xs) r a i h g
  order_kept xs (orders ks s) h g b = taken_kept controlled (length xs) ks s g.0 g.1 h tt (tracing st xs) b

  answered_kept : (xs : List Pass) (e : Ending) → length xs ≤ sent.budget → GoodEnding e → ((e ≡ refused trace_too_long → ⊥) → TraceWithin xs) → Kept ms st sent (answered ms st xs e)
  unfolding answered
  answered_kept xs (refused r) h g b = refusal_kept (length xs) (of_work r) a i h (work_number_lem r)
  answered_kept xs (done t s) h g b =
      taken_kept (kind_of_done s.nflag (had_occurrence xs) t) (length xs) ms s a g.state h (done_taken s.nflag (had_occurrence xs) t g.bytes g.fits) (tracing st xs)
      (b (λ q. let z : ◌≡◌ {A = ℕ} 0 1 = cc in omega arith))
  answered_kept xs (control t s) h g b = order_kept xs (order_of ms s t) h (order_good ms s t a g) (b (λ q. let z : ◌≡◌ {A = ℕ} 0 1 = cc in omega arith))

  answer_kept : (l : Line) → Within sent.budget l → FitsIf st.trace most_trace_bytes l → Kept ms st sent (answer ms st l)
  unfolding answer
  answer_kept l h f = answered_kept (passes_of l) (ending l) h.count h.ends (λ n. written_within st l f (λ q. n (end_of_line_lem l ∙ q)))

-- THE LAWS

pub feed_keeps : FeedKeeps
unfolding feed
feed_keeps ms st sent a i o =
    by_elim (Kept ms st sent) (leb sent.budget most_budget) _ _
    (λ e. by_elim (Kept ms st sent) (leb (length sent.line) most_line_bytes) _ _
    (λ f. by_elim (Kept ms st sent) (has_bad_byte sent.line) _ _ (λ g. refusal_kept 0 (of_line bad_byte) a i (omega arith) (line_number_lem bad_byte))
    (λ g. answer_kept ms st sent a i (history_of ms st sent)
    (history_within ms st sent (line_within ms st sent (each_spellable a) (record { bytes = no_zero sent.line g o; fits = leb-true _ most_line_bytes f; state = i }))) (history_traces ms st sent)))
    (λ f. refusal_kept 0 (of_line line_too_long) a i (omega arith) (line_number_lem line_too_long)))
    (λ e. refusal_kept 0 (of_host budget_too_large) a i (omega arith) host_number_lem)

pub feeds_from : (ms : Table) (st : State) (xs : List Sent) → Accepted ms → InRange st → AllOf (λ (x : Sent). Octets x.line) xs → EachKept ms st xs (feeds ms st xs)
unfolding feeds
feeds_from ms st [] a i o = tt
feeds_from ms st (x ∷ xs) a i o = let k = feed_keeps ms st x a i o.0 in (k, feeds_from (feed ms st x).table (feed ms st x).state xs k.table k.state o.1)

pub feeds_keep : FeedsKeep
feeds_keep ms xs a o = feeds_from ms fresh xs a fresh_in_range o

-- Demand 3, proved.
use mathlib.Core.Path.{◌≡◌, refl, sym, ◌∙◌}
use mathlib.Core.Bool.{Bool, true, false, ◌||◌, false≢true}
use mathlib.Core.Logic.{◌⊎◌, inl, inr}
use mathlib.Core.List.{List, [], ◌∷◌}
use Prim.Native.Nat.{ℕ, zero, suc}
use native.Mathlib.Omega.{arith}
use borrow.Author.Tests.{eqb-true, eqb-false, leb-true, leb-false}
use lib.Dec.{eqb}
use lib.ListN.{length}
use Rattle.macros.specs.Bounds.{most_line_bytes, most_budget}
use Rattle.macros.specs.Refusals.Refusal.{of_host, of_line, of_file, of_work}
use Rattle.macros.specs.Refusals.LineRefusal.{line_too_long, bad_byte, bad_control}
use Rattle.macros.specs.Macro.{Table}
use Rattle.lines.specs.State.{State, fresh}
use Rattle.lines.specs.Line.{Sent, Ending, Line, refused, done, control, passes_of, had_occurrence, ending}
use Rattle.lines.specs.Trace.{history_of}
use Rattle.lines.specs.Feeding.{Order, wrong, orders, order_of, Answer, kind_of_done, refusal, tracing, of_order, answered, answer, has_bad_byte, feed, feeds}
use Rattle.lines.specs.Controls.{Says}
use Rattle.lines.specs.Demand.{HasBadByte, Fits, History, Run, Finished, ByKind, LineHolds, Lines, Resumed, Demand3}
use Rattle.lines.proofs.LineLaws.{left_nothing, pass_count_lem, end_of_line_lem, kind_of_done_lem}
use Rattle.lines.proofs.TraceLaws.{history_holds, history_budgeted, history_traces, written}
use Rattle.lines.proofs.FeedLaws.{feed_cases}
use Rattle.lines.proofs.OrderLaws.{order_says}
use Rattle.lines.proofs.KeepState.{fresh_in_range}

-- 22, joined to the demand's own notion
pub bad_byte_lem : (t : List ℕ) → has_bad_byte t ≡ true → HasBadByte t
unfolding has_bad_byte
bad_byte_lem [] e = false≢true e
bad_byte_lem (b ∷ bs) e = go (bad_byte_lem bs) (eqb b 0) refl (eqb b 10) refl e
  where
    go : (has_bad_byte bs ≡ true → HasBadByte bs) → (x : Bool) → eqb b 0 ≡ x → (y : Bool) → eqb b 10 ≡ y → (elim (x || y) [ true ↦ true | false ↦ has_bad_byte bs ]) ≡ true → HasBadByte (b ∷ bs)
    go ih true f y g h = inl (eqb-true b 0 f)
    go ih false f true g h = inr (inl (eqb-true b 10 g))
    go ih false f false g h = inr (inr (ih h))

pub no_bad_byte : (t : List ℕ) → has_bad_byte t ≡ false → HasBadByte t → ⊥
unfolding has_bad_byte
no_bad_byte [] e h = h
no_bad_byte (b ∷ bs) e h = go (no_bad_byte bs) (eqb b 0) refl (eqb b 10) refl e h
  where
    go : (has_bad_byte bs ≡ false → HasBadByte bs → ⊥) → (x : Bool) → eqb b 0 ≡ x → (y : Bool) → eqb b 10 ≡ y
        → (elim (x || y) [ true ↦ true | false ↦ has_bad_byte bs ]) ≡ false → HasBadByte (b ∷ bs) → ⊥
    go ih true f y g h k = false≢true (sym h)
    go ih false f true g h k = false≢true (sym h)
    go ih false f false g h (inl z) = eqb-false b 0 f z
    go ih false f false g h (inr (inl z)) = eqb-false b 10 g z
    go ih false f false g h (inr (inr z)) = ih h z

-- a line that fits, and the answer that its history makes
module _ (ms : Table) (st : State) (sent : Sent) (fits : Fits sent) where
  abbrev history : Line
  history = history_of ms st sent

  abbrev count : ℕ
  count = length (passes_of history)

  pub line_history : History ms st sent history
  line_history = record { fits = fits; passes = history_holds ms st sent; within = (history_budgeted ms st sent).0; used_up = (history_budgeted ms st sent).1; traces = history_traces ms st sent }

  run : (a : Answer) → a.passes ≡ count → Run ms st sent history a
  run a n = record { history = line_history; number = n ∙ pass_count_lem history }

  finished : (s : List ℕ) (z : State) → ending history ≡ done s z
      → Finished ms history (record { kind = kind_of_done z.nflag (had_occurrence (passes_of history)) s; passes = count; table = ms; state = z; trace_text = tracing st (passes_of history) }) s
  finished s z e =
      record {
        final = sym (end_of_line_lem history) ∙ e;
        kind = kind_of_done_lem history s z z.nflag (had_occurrence (passes_of history)) refl refl;
        table = refl;
        nothing_left = λ i m at f. left_nothing ms s z i m at [] [] sent.line st history (history_holds ms st sent) e f;
      }

  done_holds : (s : List ℕ) (z : State) → ending history ≡ done s z → (f : ℕ) (o : Bool)
      → ByKind ms st sent history (record { kind = kind_of_done z.nflag (had_occurrence (passes_of history)) s; passes = count; table = ms; state = z; trace_text = tracing st (passes_of history) }) (kind_of_done f o s)
  unfolding kind_of_done
  done_holds s z e zero o = (run _ refl, finished s z e, written st history)
  done_holds s z e (suc f) true = (run _ refl, finished s z e, written st history)
  done_holds s z e (suc f) false = (run _ refl, (s, finished s z e), written st history)

  control_holds : (s : List ℕ) (z : State) → ending history ≡ control s z → (x : Order) → Says ms z s x
      → ByKind ms st sent history (of_order ms st (passes_of history) x) (of_order ms st (passes_of history) x).kind
  unfolding of_order refusal
  control_holds s z e (wrong (of_host r)) g = absurd g
  control_holds s z e (wrong (of_line line_too_long)) g = absurd g
  control_holds s z e (wrong (of_line bad_byte)) g = absurd g
  control_holds s z e (wrong (of_line bad_control)) g = (refl, refl, (run _ refl, (s, z, record { final = sym (end_of_line_lem history) ∙ e; misordered = g })), refl)
  control_holds s z e (wrong (of_file r p)) g = (refl, refl, (run _ refl, (s, z, record { final = sym (end_of_line_lem history) ∙ e; misordered = g })), refl)
  control_holds s z e (wrong (of_work r)) g = absurd g
  control_holds s z e (orders ks y) g = (run _ refl, (s, z, record { final = sym (end_of_line_lem history) ∙ e; ordered = g }), written st history)

  ending_holds : (e : Ending) → ending history ≡ e
      → ByKind ms st sent history (answered ms st (passes_of history) e) (answered ms st (passes_of history) e).kind
  unfolding answered refusal
  ending_holds (refused r) e = (refl, refl, (run _ refl, sym (end_of_line_lem history) ∙ e), refl)
  ending_holds (done s z) e = done_holds s z e z.nflag (had_occurrence (passes_of history))
  ending_holds (control s z) e = control_holds s z e (order_of ms z s) (order_says ms z s)

-- of one line that is fed
pub fed_holds : (ms : Table) (st : State) (sent : Sent) → ByKind ms st sent (history_of ms st sent) (feed ms st sent) (feed ms st sent).kind
unfolding answer refusal
fed_holds ms st sent =
    feed_cases ms st sent (λ a. ByKind ms st sent (history_of ms st sent) a a.kind)
    (λ e. (refl, refl, (leb-false sent.budget most_budget e, refl), refl))
    (λ e f. (refl, refl, (leb-true sent.budget most_budget e, leb-false (length sent.line) most_line_bytes f, refl), refl))
    (λ e f g. (refl, refl, (leb-true sent.budget most_budget e, leb-true (length sent.line) most_line_bytes f, bad_byte_lem sent.line g, refl), refl))
    (λ e f g. ending_holds ms st sent (record { few = leb-true sent.budget most_budget e; short = leb-true (length sent.line) most_line_bytes f; clean = no_bad_byte sent.line g }) (ending (history_of ms st sent)) refl)

pub fed_line : (ms : Table) (st : State) (sent : Sent) → LineHolds ms st sent (feed ms st sent)
fed_line ms st sent = (history_of ms st sent, fed_holds ms st sent)

-- of every state and every table
pub lines : (ms : Table) (st : State) (xs : List Sent) → Lines ms st xs (feeds ms st xs)
unfolding feeds
lines ms st [] = tt
lines ms st (x ∷ xs) = (fed_line ms st x, lines (feed ms st x).table (feed ms st x).state xs)

-- THE LAW
pub resumed : Resumed
resumed ms accepted st range xs = lines ms st xs

pub demand3 : Demand3
demand3 ms accepted xs = resumed ms accepted fresh fresh_in_range xs

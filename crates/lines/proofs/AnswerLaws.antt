-- The laws OneAnswer and OneList of specs/OneLine: an answer of which the demand's clauses hold, with any history, is the one that feed gives.
use mathlib.Core.Path.{◌≡◌, refl, sym, ap, ◌∙◌, subst}
use mathlib.Core.Bool.{Bool, true, false, false≢true}
use mathlib.Core.Logic.{◌⊎◌, inl, inr}
use mathlib.Core.List.{List, [], ◌∷◌, ◌++◌}
use mathlib.Core.Option.{none, some}
use Prim.Native.Nat.{ℕ, zero, suc, ◌≤◌, ◌<◌}
use borrow.Author.Tests.{le-leb, lt-leb, eq-eqb, ne_eqb}
use lib.ListN.{length, drop}
use Rattle.macros.specs.Bounds.{most_line_bytes, most_budget}
use Rattle.macros.specs.Refusals.{Refusal}
use Rattle.macros.specs.Refusals.Refusal.{of_host, of_line, of_file, of_work}
use Rattle.macros.specs.Refusals.HostRefusal.{bad_memory, bad_table, bad_state, budget_too_large}
use Rattle.macros.specs.Refusals.LineRefusal.{line_too_long, bad_byte, bad_control}
use Rattle.macros.specs.Macro.{Macro, Table, pick}
use Rattle.macros.specs.Read.{read_onto_by}
use Rattle.macros.specs.ReadFile.Read.{refused_at, table}
use Rattle.lines.specs.State.{State}
use Rattle.lines.specs.Matching.{begins}
use Rattle.lines.specs.Line.{Sent, Pass, Ending, Line, refused, done, control, passes_of, had_occurrence, ending}
use Rattle.lines.specs.Trace.{is_on, history_of, trace_of, trace_if}
use Rattle.lines.specs.Feeding.{bytes, same, with_trace, with_nflag, flag_order, macro_order, Order, wrong, orders, order_of}
use Rattle.lines.specs.Feeding.{Kind, refused_with, out, withheld, controlled, Answer, kind_of_done, refusal, tracing, of_order, answered, answer, has_bad_byte, feed}
use Rattle.lines.specs.Controls.{Says}
use Rattle.lines.specs.Demand.{end_of_line, pass_count, Withholds, HasBadByte, Fits, History, Run, Finished, ByKind, TraceIs, WritesTrace, Lines}
use Rattle.lines.specs.OneLine.{OneAnswer, OneList}
use Rattle.lines.proofs.TellLaws.{trace_same}
use Rattle.lines.proofs.LineLaws.{pass_count_lem, end_of_line_lem, kind_of_done_lem}
use Rattle.lines.proofs.OntoLaws.{Onto, reads_onto, one_more, one_length}
use Rattle.lines.proofs.OrderLaws.{begins_with_lem, same_true}
use Rattle.lines.proofs.Demand3.{bad_byte_lem, no_bad_byte, line_history}
use Rattle.lines.proofs.OneLaws.{one_line}

-- a test by its fact
by_true : (b : Bool) → (b ≡ false → ⊥) → b ≡ true
by_true true h = refl
by_true false h = absurd (h refl)

by_false : (b : Bool) → (b ≡ true → ⊥) → b ≡ false
by_false true h = absurd (h refl)
by_false false h = refl

-- A LINE THAT IS FED

module _ (ms : Table) (st : State) (sent : Sent) where
  pub feed_costly : most_budget < sent.budget → feed ms st sent ≡ refusal ms st 0 (of_host budget_too_large)
  unfolding feed
  feed_costly h = rw (lt-leb sent.budget most_budget h, feed)

  pub feed_long : sent.budget ≤ most_budget → most_line_bytes < length sent.line → feed ms st sent ≡ refusal ms st 0 (of_line line_too_long)
  unfolding feed
  feed_long h g = rw (le-leb sent.budget most_budget h, lt-leb (length sent.line) most_line_bytes g, feed)

  pub feed_bad : sent.budget ≤ most_budget → length sent.line ≤ most_line_bytes → HasBadByte sent.line → feed ms st sent ≡ refusal ms st 0 (of_line bad_byte)
  unfolding feed
  feed_bad h g f = rw (le-leb sent.budget most_budget h, le-leb (length sent.line) most_line_bytes g, by_true (has_bad_byte sent.line) (λ e. no_bad_byte sent.line e f), feed)

  pub feed_runs : Fits sent → feed ms st sent ≡ answer ms st (history_of ms st sent)
  unfolding feed
  feed_runs f = rw (le-leb sent.budget most_budget f.few, le-leb (length sent.line) most_line_bytes f.short, by_false (has_bad_byte sent.line) (λ e. f.clean (bad_byte_lem sent.line e)), feed)

-- A CONTROL LINE

not_one_lem : (longest : ℕ) (ms : Table) (rest : List ℕ) (ks : Table) → read_onto_by longest ms rest ≡ table ks → ((m : Macro) → ks ≡ ms ++ (m ∷ []) → ⊥) → length ks ≡ suc (length ms) → ⊥
not_one_lem longest ms rest ks e h n =
    let o : Onto ms (table ks) = subst (Onto ms) e (reads_onto longest ms rest) in
    let a = one_more ms ks o.0 o.1 n in
    h a.0 a.1

state_same : (x y : State) → x.stacks ≡ y.stacks → x.counters ≡ y.counters → x.trace ≡ y.trace → x.nflag ≡ y.nflag → x.entry_bytes ≡ y.entry_bytes → x ≡ y
state_same x y s c t n e = λ i. record { stacks = s i; counters = c i; trace = t i; nflag = n i; entry_bytes = e i }

module _ (ms : Table) (x : State) where
  order_macro : (rest : List ℕ) → order_of ms x (bytes "$MACRO" ++ rest) ≡ macro_order ms x (read_onto_by x.entry_bytes ms rest)
  unfolding order_of begins
  order_macro rest = refl

  order_trace_0 : order_of ms x (bytes "$TRACE 0") ≡ orders ms (with_trace 0 x)
  unfolding order_of begins flag_order same pick
  order_trace_0 = refl

  order_trace_1 : order_of ms x (bytes "$TRACE 1") ≡ orders ms (with_trace 1 x)
  unfolding order_of begins flag_order same pick
  order_trace_1 = refl

  order_nflag_0 : order_of ms x (bytes "$NFLAG 0") ≡ orders ms (with_nflag 0 x)
  unfolding order_of begins flag_order same pick
  order_nflag_0 = refl

  order_nflag_1 : order_of ms x (bytes "$NFLAG 1") ≡ orders ms (with_nflag 1 x)
  unfolding order_of begins flag_order same pick
  order_nflag_1 = refl

  -- what a text says is its order
  says_order : (s : List ℕ) (o : Order) → Says ms x s o → order_of ms x s ≡ o
  unfolding macro_order pick order_of flag_order with_trace with_nflag
  says_order s (orders ks y) (inl h) =
      ap (order_of ms x) h.word ∙ order_macro h.rest ∙ ap (macro_order ms x) h.reads ∙ rw (eq-eqb (length ks) (suc (length ms)) (one_length ms ks h.newest h.added)) (ap (orders ks) (sym h.state))
  says_order s (orders ks y) (inr (inl h)) =
      ap (order_of ms x) h.exactly ∙ order_trace_0 ∙ ap (λ (k : Table). orders k (with_trace 0 x)) (sym h.table) ∙ ap (orders ks) (sym (state_same y (with_trace 0 x) h.stacks h.counters h.trace_is h.nflag_is h.entry_bytes))
  says_order s (orders ks y) (inr (inr (inl h))) =
      ap (order_of ms x) h.exactly ∙ order_trace_1 ∙ ap (λ (k : Table). orders k (with_trace 1 x)) (sym h.table) ∙ ap (orders ks) (sym (state_same y (with_trace 1 x) h.stacks h.counters h.trace_is h.nflag_is h.entry_bytes))
  says_order s (orders ks y) (inr (inr (inr (inl h)))) =
      ap (order_of ms x) h.exactly ∙ order_nflag_0 ∙ ap (λ (k : Table). orders k (with_nflag 0 x)) (sym h.table) ∙ ap (orders ks) (sym (state_same y (with_nflag 0 x) h.stacks h.counters h.trace_is h.nflag_is h.entry_bytes))
  says_order s (orders ks y) (inr (inr (inr (inr h)))) =
      ap (order_of ms x) h.exactly ∙ order_nflag_1 ∙ ap (λ (k : Table). orders k (with_nflag 1 x)) (sym h.table) ∙ ap (orders ks) (sym (state_same y (with_nflag 1 x) h.stacks h.counters h.trace_is h.nflag_is h.entry_bytes))
  says_order s (wrong (of_host r)) h = absurd h
  says_order s (wrong (of_line line_too_long)) h = absurd h
  says_order s (wrong (of_line bad_byte)) h = absurd h
  says_order s (wrong (of_line bad_control)) (inl h) =
      ap (order_of ms x) h.word ∙ order_macro h.rest ∙ ap (macro_order ms x) h.reads ∙ rw (ne_eqb (length h.read) (suc (length ms)) (not_one_lem x.entry_bytes ms h.rest h.read h.reads h.not_one))
  says_order s (wrong (of_line bad_control)) (inr h) =
      rw (
        by_false (begins (bytes "$MACRO") s) (λ e. h.no_macro (drop 6 s) (begins_with_lem (bytes "$MACRO") s e)),
        by_false (same s (bytes "$TRACE 0")) (λ e. h.no_trace0 (same_true s _ e)),
        by_false (same s (bytes "$TRACE 1")) (λ e. h.no_trace1 (same_true s _ e)),
        by_false (same s (bytes "$NFLAG 0")) (λ e. h.no_nflag0 (same_true s _ e)),
        by_false (same s (bytes "$NFLAG 1")) (λ e. h.no_nflag1 (same_true s _ e)),
        order_of,
      )
  says_order s (wrong (of_file r p)) h = ap (order_of ms x) h.word ∙ order_macro h.rest ∙ ap (macro_order ms x) h.reads
  says_order s (wrong (of_work r)) h = absurd h

-- THE ANSWER

answer_same : (a b : Answer) → a.kind ≡ b.kind → a.passes ≡ b.passes → a.table ≡ b.table → a.state ≡ b.state → a.trace_text ≡ b.trace_text → a ≡ b
answer_same a b k p t s r = λ i. record { kind = k i; passes = p i; table = t i; state = s i; trace_text = r i }

module _ (ms : Table) (st : State) (sent : Sent) where
  abbrev made : List Pass
  made = passes_of (history_of ms st sent)

  abbrev count : ℕ
  count = length (passes_of (history_of ms st sent))

  -- the history is the one that the definition makes
  is_line_lem : (l : Line) (a : Answer) → Run ms st sent l a → l ≡ history_of ms st sent
  is_line_lem l a r = one_line ms st sent l (history_of ms st sent) r.history (line_history ms st sent r.history.fits)

  passes_are : (l : Line) (a : Answer) → Run ms st sent l a → a.passes ≡ count
  passes_are l a r = r.number ∙ ap pass_count (is_line_lem l a r) ∙ sym (pass_count_lem (history_of ms st sent))

  -- feed's answer, by the history's end
  feed_ends : (l : Line) (a : Answer) → Run ms st sent l a → (e : Ending) → end_of_line l ≡ e
      → feed ms st sent ≡ answered ms st made e
  unfolding answer
  feed_ends l a r e f =
      feed_runs ms st sent r.history.fits
      ∙ ap (answered ms st made) (end_of_line_lem (history_of ms st sent) ∙ ap end_of_line (sym (is_line_lem l a r)) ∙ f)

  -- the trace is the one that feed gives
  trace_is_lem : (l : Line) (a : Answer) → Run ms st sent l a → WritesTrace st.trace l a.trace_text → a.trace_text ≡ tracing st made
  unfolding tracing is_on trace_if
  trace_is_lem l a r = go st.trace
    where
      go : (f : ℕ) → WritesTrace f l a.trace_text → a.trace_text ≡ trace_if (is_on f) made
      go zero w = w
      go (suc f) w = w.2 ∙ ap some (trace_same l w.0 w.1) ∙ ap (λ (k : Line). some (trace_of (passes_of k))) (is_line_lem l a r)

  finished_is : (l : Line) (a : Answer) (s : List ℕ) → Run ms st sent l a → Finished ms l a s → WritesTrace st.trace l a.trace_text → a ≡ feed ms st sent
  unfolding answered
  finished_is l a s r f w =
      answer_same a (record { kind = kind_of_done a.state.nflag (had_occurrence (passes_of whole)) s; passes = count; table = ms; state = a.state; trace_text = tracing st made })
      (kinds f.kind (subst (λ (k : Line). (Withholds a.state k × (kind_made ≡ withheld)) ⊎ ((Withholds a.state k → ⊥) × (kind_made ≡ out s))) (sym (is_line_lem l a r)) (kind_of_done_lem whole s a.state a.state.nflag (had_occurrence (passes_of whole)) refl refl)))
      (passes_are l a r) f.table refl (trace_is_lem l a r w)
      ∙ sym (feed_ends l a r (done s a.state) f.final)
    where
      whole : Line
      whole = history_of ms st sent

      kind_made : Kind
      kind_made = kind_of_done a.state.nflag (had_occurrence (passes_of (history_of ms st sent))) s

      kinds : (Withholds a.state l × (a.kind ≡ withheld)) ⊎ ((Withholds a.state l → ⊥) × (a.kind ≡ out s))
          → (Withholds a.state l × (kind_made ≡ withheld)) ⊎ ((Withholds a.state l → ⊥) × (kind_made ≡ out s)) → a.kind ≡ kind_made
      kinds (inl h) (inl g) = h.1 ∙ sym g.1
      kinds (inl h) (inr g) = absurd (g.0 h.0)
      kinds (inr h) (inl g) = absurd (h.0 g.0)
      kinds (inr h) (inr g) = h.1 ∙ sym g.1

  refused_is : (l : Line) (a : Answer) (x : Refusal) → Run ms st sent l a → a.kind ≡ refused_with x → a.table ≡ ms → a.state ≡ st → a.trace_text ≡ none → feed ms st sent ≡ refusal ms st count x
      → a ≡ feed ms st sent
  unfolding refusal
  refused_is l a x r k m s w f = answer_same a (refusal ms st count x) k (passes_are l a r) m s w ∙ sym f

  -- a refusal before any pass
  early_is : (a : Answer) (x : Refusal) → a.kind ≡ refused_with x → a.table ≡ ms → a.state ≡ st → a.passes ≡ 0 → a.trace_text ≡ none → feed ms st sent ≡ refusal ms st 0 x → a ≡ feed ms st sent
  unfolding refusal
  early_is a x k m s p w f = answer_same a (refusal ms st 0 x) k p m s w ∙ sym f

  fixed : (l : Line) (a : Answer) (k : Kind) → a.kind ≡ k → ByKind ms st sent l a k → a ≡ feed ms st sent
  unfolding answered of_order
  fixed l a (refused_with (of_host bad_memory)) e h = absurd h.2
  fixed l a (refused_with (of_host bad_table)) e h = absurd h.2
  fixed l a (refused_with (of_host bad_state)) e h = absurd h.2
  fixed l a (refused_with (of_host budget_too_large)) e h = early_is a (of_host budget_too_large) e h.0 h.1 h.2.1 h.3 (feed_costly ms st sent h.2.0)
  fixed l a (refused_with (of_line line_too_long)) e h = early_is a (of_line line_too_long) e h.0 h.1 h.2.2 h.3 (feed_long ms st sent h.2.0 h.2.1)
  fixed l a (refused_with (of_line bad_byte)) e h = early_is a (of_line bad_byte) e h.0 h.1 h.2.3 h.3 (feed_bad ms st sent h.2.0 h.2.1 h.2.2)
  fixed l a (refused_with (of_line bad_control)) e h =
      let c = h.2.1 in
      refused_is l a (of_line bad_control) h.2.0 e h.0 h.1 h.3
      (feed_ends l a h.2.0 (control c.0 c.1) c.2.final ∙ ap (of_order ms st made) (says_order ms c.1 c.0 (wrong (of_line bad_control)) c.2.misordered))
  fixed l a (refused_with (of_file r p)) e h =
      let c = h.2.1 in
      refused_is l a (of_file r p) h.2.0 e h.0 h.1 h.3
      (feed_ends l a h.2.0 (control c.0 c.1) c.2.final ∙ ap (of_order ms st made) (says_order ms c.1 c.0 (wrong (of_file r p)) c.2.misordered))
  fixed l a (refused_with (of_work r)) e h = refused_is l a (of_work r) h.2.0 e h.0 h.1 h.3 (feed_ends l a h.2.0 (refused r) h.2.1)
  fixed l a (out s) e h = finished_is l a s h.0 h.1 h.2
  fixed l a withheld e h = finished_is l a h.1.0 h.0 h.1.1 h.2
  fixed l a controlled e h =
      let c = h.1 in
      answer_same a (record { kind = controlled; passes = count; table = a.table; state = a.state; trace_text = tracing st made }) e (passes_are l a h.0) refl refl (trace_is_lem l a h.0 h.2)
      ∙ sym (feed_ends l a h.0 (control c.0 c.1) c.2.final ∙ ap (of_order ms st made) (says_order ms c.1 c.0 (orders a.table a.state) c.2.ordered))

-- THE LAW
pub one_answer : OneAnswer
one_answer ms st sent a b h g = fixed ms st sent h.0 a a.kind refl h.1 ∙ sym (fixed ms st sent g.0 b b.kind refl g.1)

pub one_list : OneList
one_list ms st [] [] [] h g = refl
one_list ms st [] [] (b ∷ bs) h g = absurd g
one_list ms st [] (a ∷ as₁) bs h g = absurd h
one_list ms st (x ∷ xs) [] bs h g = absurd h
one_list ms st (x ∷ xs) (a ∷ as₁) [] h g = absurd g
one_list ms st (x ∷ xs) (a ∷ as₁) (b ∷ bs) h g =
    let e : a ≡ b = one_answer ms st x a b h.0 g.0 in
    let i : as₁ ≡ bs = one_list a.table a.state xs as₁ bs h.1 (subst (λ (c : Answer). Lines c.table c.state xs bs) (sym e) g.1) in
    ap (λ (c : Answer). c ∷ as₁) e ∙ ap (λ (l : List Answer). b ∷ l) i

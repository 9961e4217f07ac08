-- What a line is answered with both bounds: the same, with the state's bound, unless the smaller one meets 33 or 16.
use Prim.Native.Nat.{ℕ, suc, ◌≤◌}
use mathlib.Core.Path.{◌≡◌, refl, sym, ap, ◌∙◌, subst}
use mathlib.Core.Bool.{Bool, true, false, ◌||◌}
use mathlib.Core.Logic.{◌⊎◌, inl, inr}
use mathlib.Core.List.{List, [], ◌∷◌, ◌++◌}
use mathlib.Core.Option.{Option, none, some}
use lib.Dec.{leb, eqb}
use lib.ListN.{length, drop}
use Rattle.macros.specs.Bounds.{most_line_bytes, most_budget, most_trace_bytes}
use Rattle.macros.specs.Refusals.{Refusal, number, file_number, work_number}
use Rattle.macros.specs.Refusals.Refusal.{of_host, of_line, of_file, of_work}
use Rattle.macros.specs.Refusals.HostRefusal.{budget_too_large}
use Rattle.macros.specs.Refusals.LineRefusal.{line_too_long, bad_byte, bad_control}
use Rattle.macros.specs.Refusals.FileRefusal.{bad_call}
use Rattle.macros.specs.Refusals.WorkRefusal.{tag_too_long}
use Rattle.macros.specs.Macro.{Table, pick}
use Rattle.macros.specs.Read.{Read, read_onto_by}
use Rattle.macros.specs.ReadFile.Read.{refused_at, table}
use Rattle.macros.proofs.ReadBounds.{smaller_bound}
use Rattle.lines.specs.State.{State}
use Rattle.lines.specs.Matching.{begins}
use Rattle.lines.specs.Pass.{occurred}
use Rattle.lines.specs.Line.{Sent, Pass, Ending, Line, passed, refused, done, control, passes_of, had_occurrence, ending}
use Rattle.lines.specs.Line.{Line.ended as line_ended}
use Rattle.lines.specs.Trace.{history_of, is_on, lines_of, trace_of, trace_if}
use Rattle.lines.specs.Feeding.{Order, wrong, orders, Kind, Answer, bytes, same, with_trace, with_nflag, flag_order, macro_order, order_of, number_of, kind_of_done, refusal, tracing, of_order, answered, answer, has_bad_byte, feed}
use Rattle.m_widths.specs.Widths.{bounded}
use Rattle.m_widths.proofs.Passes.{pass_wide, ending_wide, Sound, KeptEnd, Lines, occurred_wide, lines_wide, history_lines}

-- it is refused with 33, or with 16
abbrev pub Bound : Answer → Type 0
Bound a = (number_of a.kind ≡ 33) ⊎ (number_of a.kind ≡ 16)

-- the same answer with another bound of its state
abbrev pub answer_with : ℕ → Answer → Answer
answer_with m a = record { kind = a.kind; passes = a.passes; table = a.table; state = bounded m a.state; trace_text = a.trace_text }

module _ (n m : ℕ) (le : n ≤ m) (Q : Type 0) where
  -- HOW TWO LINES END

  -- two lines that go together to their end
  pub record SameEnd (l k : Line) : Type 0 where
    pub count : length (passes_of k) ≡ length (passes_of l)
    pub occurrence : had_occurrence (passes_of k) ≡ had_occurrence (passes_of l)
    pub trace : trace_of (passes_of k) ≡ trace_of (passes_of l)
    pub end : ending k ≡ ending_wide n m le Q (ending l)
    pub kept : KeptEnd n m le Q (ending l)

  ends : (l k : Line) → Lines n m le Q l k → (ending l ≡ refused tag_too_long) ⊎ SameEnd l k
  unfolding ending passes_of had_occurrence trace_of
  ends (line_ended e) k h =
      inr (record {
        count = ap (λ (x : Line). length (passes_of x)) h.0;
        occurrence = ap (λ (x : Line). had_occurrence (passes_of x)) h.0;
        trace = ap (λ (x : Line). trace_of (passes_of x)) h.0;
        end = ap ending h.0;
        kept = h.1;
      })
  ends (passed x l) k (inl h) = inl (ap ending h.1)
  ends (passed x l) k (inr h) = by (ends l h.0 h.2)
    where
      by : (ending l ≡ refused tag_too_long) ⊎ SameEnd l h.0 → (ending l ≡ refused tag_too_long) ⊎ SameEnd (passed x l) k
      by (inl e) = inl e
      by (inr g) =
          inr (record {
            count = ap (λ (z : Line). length (passes_of z)) h.1 ∙ ap suc g.count;
            occurrence =
                ap (λ (z : Line). had_occurrence (passes_of z)) h.1
                ∙ (ap (λ (b : Bool). b || had_occurrence (passes_of h.0)) (occurred_wide n m le Q x.events) ∙ ap (λ (b : Bool). occurred x.events || b) g.occurrence);
            trace =
                ap (λ (z : Line). trace_of (passes_of z)) h.1
                ∙ (ap (λ (t : List ℕ). t ++ trace_of (passes_of h.0)) (lines_wide n m le Q x) ∙ ap (λ (t : List ℕ). lines_of x ++ t) g.trace);
            end = ap ending h.1 ∙ g.end;
            kept = g.kept;
          })

  -- CONTROL LINES

  abbrev order_with : Order → Order
  order_with (wrong r) = wrong r
  order_with (orders ks st) = orders ks (bounded m st)

  abbrev KeptOrder : Order → Type 0
  KeptOrder (wrong r) = Unit {0}
  KeptOrder (orders ks st) = Sound n m le Q st

  -- two orders with both bounds; the first may be refused with 16
  abbrev Orders : Order → Order → Type 0
  Orders o q = ((p : ℕ) × (o ≡ wrong (of_file bad_call p))) ⊎ ((q ≡ order_with o) × KeptOrder o)

  pick_orders : (b : Bool) (o q u v : Order) → Orders o u → Orders q v → Orders (pick b o q) (pick b u v)
  unfolding pick
  pick_orders true o q u v h g = h
  pick_orders false o q u v h g = g

  flag_orders : (ms : Table) (st : State) (t : List ℕ) → Sound n m le Q st → Orders (flag_order ms st t) (flag_order ms (bounded m st) t)
  unfolding flag_order with_trace with_nflag
  flag_orders ms st t h =
      pick_orders (same t (bytes "$TRACE 0")) _ _ _ _ (inr (refl, h))
      (pick_orders (same t (bytes "$TRACE 1")) _ _ _ _ (inr (refl, h))
      (pick_orders (same t (bytes "$NFLAG 0")) _ _ _ _ (inr (refl, h)) (pick_orders (same t (bytes "$NFLAG 1")) _ _ _ _ (inr (refl, h)) (inr (refl, tt)))))

  macro_orders : (ms : Table) (st : State) (r : Read) → Sound n m le Q st → Orders (macro_order ms st r) (macro_order ms (bounded m st) r)
  unfolding macro_order
  macro_orders ms st (refused_at r p) h = inr (refl, tt)
  macro_orders ms st (table ks) h = pick_orders (eqb (length ks) (suc (length ms))) _ _ _ _ (inr (refl, h)) (inr (refl, tt))

  -- what `$MACRO` reads
  read_orders : (ms : Table) (st : State) (s : List ℕ) → Sound n m le Q st
      → Orders (macro_order ms st (read_onto_by st.entry_bytes ms s)) (macro_order ms (bounded m st) (read_onto_by m ms s))
  unfolding macro_order
  read_orders ms st s h = subst (λ (k : ℕ). Orders (macro_order ms st (read_onto_by k ms s)) (macro_order ms (bounded m st) (read_onto_by m ms s))) (sym h.0) (by (smaller_bound n m le ms s))
    where
      by : (read_onto_by n ms s ≡ read_onto_by m ms s) ⊎ ((p : ℕ) × (read_onto_by n ms s ≡ refused_at bad_call p))
          → Orders (macro_order ms st (read_onto_by n ms s)) (macro_order ms (bounded m st) (read_onto_by m ms s))
      by (inl e) =
          subst (λ (r : Read). Orders (macro_order ms st (read_onto_by n ms s)) (macro_order ms (bounded m st) r)) e (macro_orders ms st (read_onto_by n ms s) h)
      by (inr e) = inl (e.0, ap (macro_order ms st) e.1)

  order_orders : (ms : Table) (st : State) (t : List ℕ) → Sound n m le Q st → Orders (order_of ms st t) (order_of ms (bounded m st) t)
  unfolding order_of
  order_orders ms st t h = by (begins (bytes "$MACRO") t)
    where
      by : (b : Bool) → Orders (elim b [ true ↦ macro_order ms st (read_onto_by st.entry_bytes ms (drop 6 t)) | false ↦ flag_order ms st t ])
          (elim b [ true ↦ macro_order ms (bounded m st) (read_onto_by m ms (drop 6 t)) | false ↦ flag_order ms (bounded m st) t ])
      by true = read_orders ms st (drop 6 t) h
      by false = flag_orders ms st t h

  -- ANSWERS: the first is refused with 33 or 16, or the second is the first with the larger bound

  abbrev pub Answers : Answer → Answer → Type 0
  Answers a b = Bound a ⊎ ((b ≡ answer_with m a) × Sound n m le Q a.state)

  trace_if_lem : (b : Bool) (xs ys : List Pass) → trace_of ys ≡ trace_of xs → trace_if b ys ≡ trace_if b xs
  unfolding trace_if
  trace_if_lem true xs ys e = ap some e
  trace_if_lem false xs ys e = refl

  module _ (ms : Table) (old : State) (h : Sound n m le Q old) where
    of_orders : (xs ys : List Pass) → length ys ≡ length xs → trace_of ys ≡ trace_of xs → (o q : Order) → Orders o q
        → Answers (of_order ms old xs o) (of_order ms (bounded m old) ys q)
    unfolding of_order refusal tracing number_of number file_number
    of_orders xs ys c t o q (inl e) = inl (inr (ap (λ (z : Order). number_of (of_order ms old xs z).kind) e.1))
    of_orders xs ys c t (wrong r) q (inr e) =
        inr (ap (of_order ms (bounded m old) ys) e.0 ∙ ap (λ (k : ℕ). refusal ms (bounded m old) k r) c, h)
    of_orders xs ys c t (orders ks st) q (inr e) =
        inr (
          ap (of_order ms (bounded m old) ys) e.0
              ∙ (λ i. record { kind = Kind.controlled; passes = c i; table = ks; state = bounded m st; trace_text = trace_if_lem (is_on old.trace) xs ys t i }),
          e.1,
        )

    of_endings : (xs ys : List Pass) → length ys ≡ length xs → had_occurrence ys ≡ had_occurrence xs → trace_of ys ≡ trace_of xs → (e : Ending) → KeptEnd n m le Q e
        → Answers (answered ms old xs e) (answered ms (bounded m old) ys (ending_wide n m le Q e))
    unfolding answered refusal tracing
    of_endings xs ys c o t (refused r) k = inr (ap (λ (j : ℕ). refusal ms (bounded m old) j (of_work r)) c, h)
    of_endings xs ys c o t (done s st) k =
        inr (
          λ i. record {
            kind = kind_of_done st.nflag (o i) s;
            passes = c i;
            table = ms;
            state = bounded m st;
            trace_text = trace_if_lem (is_on old.trace) xs ys t i;
          },
          k,
        )
    of_endings xs ys c o t (control s st) k = of_orders xs ys c t (order_of ms st s) (order_of ms (bounded m st) s) (order_orders ms st s k)

    of_lines : (l k : Line) → Lines n m le Q l k → Answers (answer ms old l) (answer ms (bounded m old) k)
    unfolding answer answered refusal number_of number work_number
    of_lines l k g = by (ends l k g)
      where
        by : (ending l ≡ refused tag_too_long) ⊎ SameEnd l k → Answers (answer ms old l) (answer ms (bounded m old) k)
        by (inl e) = inl (inl (ap (λ (z : Ending). number_of (answered ms old (passes_of l) z).kind) e))
        by (inr e) =
            subst (λ (z : Ending). Answers (answered ms old (passes_of l) (ending l)) (answered ms (bounded m old) (passes_of k) z)) (sym e.end)
            (of_endings (passes_of l) (passes_of k) e.count e.occurrence e.trace (ending l) e.kept)

    pub of_feeds : (sent : Sent) → Answers (feed ms old sent) (feed ms (bounded m old) sent)
    unfolding feed refusal history_of
    of_feeds sent = by (leb sent.budget most_budget) (leb (length sent.line) most_line_bytes) (has_bad_byte sent.line)
      where
        by : (a b c : Bool)
            → Answers (elim a [
              | false ↦ refusal ms old 0 (of_host budget_too_large)
              | true ↦ elim b [
                | false ↦ refusal ms old 0 (of_line line_too_long)
                | true ↦ elim c [ true ↦ refusal ms old 0 (of_line bad_byte) | false ↦ answer ms old (history_of ms old sent) ]
              ]
            ])
            (elim a [
              | false ↦ refusal ms (bounded m old) 0 (of_host budget_too_large)
              | true ↦ elim b [
                | false ↦ refusal ms (bounded m old) 0 (of_line line_too_long)
                | true ↦ elim c [ true ↦ refusal ms (bounded m old) 0 (of_line bad_byte) | false ↦ answer ms (bounded m old) (history_of ms (bounded m old) sent) ]
              ]
            ])
        by false b c = inr (refl, h)
        by true false c = inr (refl, h)
        by true true true = inr (refl, h)
        by true true false =
            of_lines (history_of ms old sent) (history_of ms (bounded m old) sent) (history_lines n m le Q (is_on old.trace) most_trace_bytes ms old sent h)

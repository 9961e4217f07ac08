-- A line's answer, from its history, its end and its control line.
-- Assumes nothing.
use Prim.Native.Nat.{ℕ, zero, suc, ◌-◌, ◌≤◌}
use mathlib.Core.Path.{◌≡◌, refl, ap, sym, ◌∙◌, subst}
use mathlib.Core.Bool.{Bool, true, false, false≢true}
use mathlib.Core.List.{List, [], ◌++◌}
use mathlib.Core.Option.{Option, none, some}
use native.Mathlib.Omega.{arith}
use borrow.Author.Tests.{ltb-true, ltb-false, le-leb, lt-leb}
use lib.Dec.{ltb}
use lib.ListN.{length, take, replicate, length-replicate}
use lib.Seq.{take_all, length-take-le}
use Rattle.std.specs.Prelude.{Result, Ok, Err}
use Rattle.macros.specs.Bounds.{most_line_bytes, most_budget, most_trace_bytes}
use Rattle.macros.specs.Refusals.{Refusal}
use Rattle.macros.specs.Refusals.Refusal.{of_work}
use Rattle.macros.specs.Macro.{Table, pick}
use Rattle.lines.specs.State.{State}
use Rattle.lines.specs.Line.{Sent, Pass, Ending, Line, passes_of, had_occurrence, ending}
use Rattle.lines.specs.Trace.{trace_of, is_on, history_of, trace_if}
use Rattle.lines.proofs.TraceSteps.{WritesIf, answer_writes}
use Rattle.lines.specs.Line.Ending.{done}
use Rattle.lines.specs.Feeding.{Kind, Answer, order_of, kind_of_done, refusal, output_of, tracing, of_order, answered, answer, has_bad_byte}
use Rattle.lines.specs.Feeding.{feed as fed}
use Rattle.lines.specs.Feeding.Kind.{refused_with, out, withheld}
use Rattle.lines.specs.Feeding.Order.{wrong, orders}
use Rattle.form_state.specs.Access.{Holds, IsState, OfState}
use Rattle.line_memory.specs.Memory.{Memories, IsTable, Counted, padded, laid_if}
use Rattle.line_memory.proofs.Copying.{padded_whole, padded_front}
use Rattle.line_control.specs.Contract.{Obeys}
use Rattle.line_control.specs.Contract.{refusal_of as control_refusal}
use Rattle.line_control.specs.declared.ControlError.{ControlError}
use Rattle.line_control.specs.declared.ControlError.TheVariants.{BadControl, InMacro}
use Rattle.line_passes.specs.Contract.{Run, Left, Started, Lies, IsDone, IsControl, IsRefused, Runs}
use Rattle.line_passes.specs.Contract.{refusal_of as work_refusal}
use Rattle.line_stand.specs.declared.Why.{Why as WorkWhy}
use Rattle.line_stand.specs.declared.Why.TheVariants.{BudgetUsedUp, AtWork, TraceTooLong}
use Rattle.line_stand.specs.declared.Ended.{Ended}
use Rattle.line_stand.specs.declared.Ended.TheVariants.{Done, Control as AtControl}
use Rattle.line_stand.specs.declared.PassesError.{PassesError}
use Rattle.line_passes.proofs.Starting.{state_length}
use Rattle.line_test.specs.Test.{first_due, is_long, is_bad, Firsts}
use Rattle.line_test.specs.declared.Why.{Why as FirstWhy}
use Rattle.line_answer.specs.Fed.{refusal_of, first_why, control_why, work_why, passes_refused, kind_of, size_of}
use Rattle.line_answer.specs.declared.Why.{Why}
use Rattle.line_answer.specs.declared.Fed.{Fed}
use Rattle.line_answer.specs.declared.Fed.TheVariants.{Out, Withheld, Control}
use Rattle.line_answer.specs.declared.LineError.{LineError}
use Rattle.line_end.specs.Answers.{withheld_by, done_fed, ruled_fed, fed_of, is_taken}
use Rattle.line_end.proofs.Ending.{leaves_taken, leaves_none}
use Rattle.line_end.specs.Contract.{Obeying, Unruled, Obeyed, size_at, Replying, Replied}
use Rattle.line_feed.specs.Contract.{Untraced, untraced, LentUntraced, laid_out, traced_out, Answers, Feeds}
use Rattle.line_feed.specs.Taking.{Counts, Fits, TraceRoom, Takes}

-- WITHHELD OR NOT

kind_held : (n : ℕ) (o : Bool) (t : List ℕ) → withheld_by n o ≡ true → kind_of_done n o t ≡ withheld
unfolding withheld_by kind_of_done
kind_held n true t e = absurd (false≢true e)
kind_held zero false t e = absurd (false≢true e)
kind_held (suc n) false t e = refl

kind_out : (n : ℕ) (o : Bool) (t : List ℕ) → withheld_by n o ≡ false → kind_of_done n o t ≡ out t
unfolding withheld_by kind_of_done
kind_out zero true t e = refl
kind_out zero false t e = refl
kind_out (suc n) true t e = refl
kind_out (suc n) false t e = absurd (false≢true (sym e))

pub none_fits : (n : ℕ) → 0 ≤ n
none_fits n = omega arith

no_output : (t o o' : List ℕ) → length o ≡ most_line_bytes → o' ≡ padded (take 0 t) (length o) → o' ≡ replicate most_line_bytes 0
no_output t o o' l e = let n : length o - 0 ≡ most_line_bytes = omega arith in e ∙ ap (λ (k : ℕ). replicate k 0) n

-- WHY

why_control : (w : ControlError) → refusal_of (control_why w) ≡ control_refusal w
why_control BadControl = refl
why_control (InMacro e) = refl

why_work : (w : WorkWhy) → refusal_of (work_why w) ≡ of_work (work_refusal w)
why_work BudgetUsedUp = refl
why_work (AtWork f) = refl
why_work TraceTooLong = refl

-- THE ANSWER

answer_as : (ms : Table) (st : State) (l : Line) {e : Ending} → ending l ≡ e → answer ms st l ≡ answered ms st (passes_of l) e
unfolding answer
answer_as ms st l f = rw f refl

-- the memories of a line: what is lent, and what is left with the output of the answer a
module _ {m m' : Untraced} (text : List ℕ) {a : Result Fed LineError} (room : length m.output ≡ most_line_bytes) (given : m'.output ≡ laid_if (is_taken a) (take (size_of a) text) m.output) where
  -- a line that is done
  module _ (ms : Table) (old : State) (xs : List Pass) {k p : ℕ} {o : Bool} {st : State} (h : IsTable m'.table ms) (hs : Holds m'.state st) (n : length xs ≡ p) (occurs : had_occurrence xs ≡ o) (fits : k ≤ length text) where
    as_done : (held : Bool) → withheld_by st.nflag o ≡ held → a ≡ Ok (done_fed held k p) → Answers (answered ms old xs (done (take k text) st)) m m' a
    unfolding answered laid_out output_of
    as_done true w e =
        let q : kind_of_done st.nflag (had_occurrence xs) (take k text) ≡ withheld = ap (λ (j : Bool). kind_of_done st.nflag j (take k text)) occurs ∙ kind_held st.nflag o (take k text) w in
        let g : m'.output ≡ padded (take 0 text) (length m.output) = rw e at given in
        rw e
        (record {
          kind = q;
          passes = n;
          size = ap (λ (j : Kind). length (output_of j)) q;
          table = h;
          state = hs;
          output = no_output text m.output m'.output room g ∙ sym (ap (λ (j : Kind). laid_out j m.output) q);
        })
    as_done false w e =
        let q : kind_of_done st.nflag (had_occurrence xs) (take k text) ≡ out (take k text) = ap (λ (j : Bool). kind_of_done st.nflag j (take k text)) occurs ∙ kind_out st.nflag o (take k text) w in
        let g : m'.output ≡ padded (take k text) (length m.output) = rw e at given in
        let l : length (take k text) ≡ k = length-take-le k text fits in
        rw e
        (record {
          kind = q ∙ ap out (sym (padded_front (take k text) (length m.output) k l g));
          passes = n;
          size = ap (λ (j : Kind). length (output_of j)) q ∙ l;
          table = h;
          state = hs;
          output = g ∙ (ap (λ (i : ℕ). take k text ++ replicate (i - length (take k text)) 0) room ∙ sym (ap (λ (j : Kind). laid_out j m.output) q));
        })

  -- a control line that is taken
  as_taken : (ms ks : Table) (old st : State) (xs : List Pass) {p : ℕ} → IsTable m'.table ks → Holds m'.state st → length xs ≡ p → a ≡ Ok (Control p) → Answers (of_order ms old xs (orders ks st)) m m' a
  unfolding of_order laid_out output_of
  as_taken ms ks old st xs h hs n e =
      let g : m'.output ≡ padded (take 0 text) (length m.output) = rw e at given in
      rw e (record { kind = refl; passes = n; size = refl; table = h; state = hs; output = no_output text m.output m'.output room g })

  -- a line that is refused
  as_refused : (ms : Table) (old : State) {n p : ℕ} {w : Why} → IsTable m'.table ms → Holds m'.state old → n ≡ p → a ≡ Err (record { why = w; passes = p }) → Answers (refusal ms old n (refusal_of w)) m m' a
  unfolding refusal laid_out output_of
  as_refused ms old h hs n e =
      let g : m'.output ≡ m.output = rw e at given in
      rw e (record { kind = refl; passes = n; size = refl; table = h; state = hs; output = g })

-- THE TRACE

-- the flag, by its test
pub flag_on : {b : List ℕ} {r c : Bool} → OfState b (λ st. r ≡ is_on st.trace) → r ≡ c → OfState b (λ st. c ≡ is_on st.trace)
flag_on f e st h = sym e ∙ f st h

-- what the answer says of a trace, by whether the line is taken
module _ (ms : Table) (st : State) (sent : Sent) {m m' : Untraced} {r : Result Fed LineError} (h : Answers (answer ms st (history_of ms st sent)) m m' r) where
  abbrev given : Answer
  given = answer ms st (history_of ms st sent)

  by_kind : (r : Result Fed LineError) → given.kind ≡ kind_of r m'.output → (is_taken r ≡ true → given.trace_text ≡ tracing st (passes_of (history_of ms st sent))) × (is_taken r ≡ false → given.trace_text ≡ none)
  by_kind (Ok (Out p n)) e = (λ t. subst (λ (k : Kind). WritesIf k given (tracing st (passes_of (history_of ms st sent)))) e (answer_writes ms st (history_of ms st sent)), λ t. absurd (false≢true (sym t)))
  by_kind (Ok (Withheld p)) e = (λ t. subst (λ (k : Kind). WritesIf k given (tracing st (passes_of (history_of ms st sent)))) e (answer_writes ms st (history_of ms st sent)), λ t. absurd (false≢true (sym t)))
  by_kind (Ok (Control p)) e = (λ t. subst (λ (k : Kind). WritesIf k given (tracing st (passes_of (history_of ms st sent)))) e (answer_writes ms st (history_of ms st sent)), λ t. absurd (false≢true (sym t)))
  by_kind (Err w) e = (λ t. absurd (false≢true t), λ t. subst (λ (k : Kind). WritesIf k given (tracing st (passes_of (history_of ms st sent)))) e (answer_writes ms st (history_of ms st sent)))

  pub trace_taken : is_taken r ≡ true → given.trace_text ≡ tracing st (passes_of (history_of ms st sent))
  trace_taken = (by_kind r h.kind).0

  pub trace_refused : is_taken r ≡ false → given.trace_text ≡ none
  trace_refused = (by_kind r h.kind).1

tracing_on : (st : State) (xs : List Pass) → true ≡ is_on st.trace → tracing st xs ≡ some (trace_of xs)
unfolding tracing trace_if
tracing_on st xs e = rw (← e) refl

tracing_off : (st : State) (xs : List Pass) → false ≡ is_on st.trace → tracing st xs ≡ none
unfolding tracing trace_if
tracing_off st xs e = rw (← e) refl

-- the memories, with that of the trace
abbrev lent_with : Untraced → List ℕ → Memories
lent_with m trace = record { table = m.table; state = m.state; output = m.output; trace = trace }

-- FROM ITS START

-- a refusal's kind is no other
not_taken : (r : Result Fed LineError) {w : Refusal} (o : List ℕ) → is_taken r ≡ true → refused_with w ≡ kind_of r o → ⊥
not_taken (Ok (Out p n)) o t e = let z : ◌≡◌ {A = ℕ} 0 1 = cc in omega arith
not_taken (Ok (Withheld p)) o t e = let z : ◌≡◌ {A = ℕ} 0 1 = cc in omega arith
not_taken (Ok (Control p)) o t e = let z : ◌≡◌ {A = ℕ} 0 1 = cc in omega arith
not_taken (Err w) o t e = false≢true t

counted : {m : Untraced} {count : ℕ} → LentUntraced m → Counts m.table count → Counted m.table count
counted y cs = record { macros = y.table.0; is_table = y.table.1; counted = cs.each y.table.0 y.table.1 }

pub state_long : (m : Untraced) → LentUntraced m → 52236 ≤ length m.state
state_long m y = omega (arith, state_length y.state)

module _ {m : Untraced} (y : LentUntraced m) {bf : List ℕ} (e : bf ≡ padded (take 52236 m.state) (length (replicate {A = ℕ} 52236 0))) where
  -- what is put back is the state that came
  backed : bf ≡ m.state
  backed =
      padded_whole (take 52236 m.state) (length (replicate {A = ℕ} 52236 0)) (length-take-le 52236 m.state (state_long m y) ∙ sym (length-replicate {A = ℕ} 52236 0)) e
      ∙ take_all 52236 m.state (omega (arith, state_length y.state))

  module _ (sent : Sent) {count : ℕ} {traced : Bool} {lines : List ℕ} (f : Fits sent.line) (room : TraceRoom m.state traced lines) (cs : Counts m.table count) where
    abbrev run : Run
    run = record { table = m.table; count = count; state = bf; sent = sent; traced = traced }

    abbrev old : Left
    old = record { state = m.state; text = replicate 1054 0; trace = lines }

    pub started : Started run old
    started =
        record {
          table = counted y cs;
          state = subst IsState (sym backed) y.state;
          short = f.short;
          bytes = f.bytes;
          same = sym backed;
          text = length-replicate {A = ℕ} 1054 0;
          flag = subst (λ (b : List ℕ). OfState b (λ st. traced ≡ is_on st.trace)) (sym backed) room.flag;
          trace = room.clear;
        }

    module _ {z tx tr : List ℕ} (r : Result Ended PassesError) (x : Runs run old (record { state = z; text = tx; trace = tr }) r) (lz : length z ≡ length m.state) (lt : length tx ≡ 1054) where
      abbrev left : Left
      left = record { state = z; text = tx; trace = tr }

      lies_alone : (e : Result Ended PassesError) → Lies left e → Lies (record { state = z; text = tx; trace = [] }) e
      lies_alone (Ok (Done n o p)) h = record { state = h.state; size = h.size; bytes = h.bytes; laid = h.laid }
      lies_alone (Ok (AtControl n p)) h = record { state = h.state; size = h.size; bytes = h.bytes; laid = h.laid }
      lies_alone (Err e) h = tt

      pub obeying : Obeying m.table count z bf tx r
      obeying = record { counted = counted y cs; same = ap length backed ∙ sym lz; room = lt; lies = lies_alone r x.runs.lies }

      size_lies : (e : Result Ended PassesError) → Lies left e → size_at e ≤ length tx
      size_lies (Ok (Done n o p)) h = omega (arith, h.size, lt)
      size_lies (Ok (AtControl n p)) h = omega arith
      size_lies (Err e) h = omega arith

      pub replying : {z' trace : List ℕ} → length z' ≡ length z → length tr ≡ length lines → length trace ≡ most_trace_bytes → Replying bf z' tx tr m.output trace r
      replying l k t =
          record {
            came = ap length backed ∙ state_length y.state;
            now = l ∙ (lz ∙ state_length y.state);
            size = size_lies r x.runs.lies;
            room = omega (arith, lt, y.room);
            trace_room = omega (arith, k, room.short, t);
          }

      module _ {table' z' out' trace trace' : List ℕ} {order : Result (Unit {0}) ControlError} {a : Result Fed LineError} (ob : Obeyed m.table table' count z z' bf tx r order) (g : Replied bf z' tx tr m.output out' trace trace' r order a) where
        abbrev m' : Untraced
        m' = record { table = table'; state = z'; output = out' }

        module _ (ms : Table) (h : IsTable m.table ms) (st : State) (hb : Holds m.state st) where
          abbrev whole : Line
          whole = history_of ms st sent

          abbrev xs : List Pass
          xs = passes_of whole

          came : Holds bf st
          came = subst (λ (j : List ℕ). Holds j st) (sym backed) hb

          -- of a control line
          ordered : {n p : ℕ} (o : Result (Unit {0}) ControlError) → order ≡ o → r ≡ Ok (AtControl n p) → (s : State) → length xs ≡ p → Obeys (order_of ms s (take n tx)) m.table table' bf z' o
              → Answers (of_order ms st xs (order_of ms s (take n tx))) m m' a
          unfolding of_order
          ordered {n} {p} (Ok u) i d s c v =
              let e₁ : a ≡ Ok (Control p) = g.fed v.1 v.4 ∙ ap (λ (j : Result Ended PassesError). fed_of v.1.nflag j order) d ∙ ap (λ (j : Result (Unit {0}) ControlError). ruled_fed j p) i in
              subst (λ (j : Answer). Answers j m m' a) (sym (ap (of_order ms st xs) v.2)) (as_taken tx y.room g.output ms v.0 st v.1 xs v.3 v.4 c e₁)
          ordered {n} {p} (Err w) i d s c v =
              let hz : Holds z' st = subst (λ (j : List ℕ). Holds j st) (sym v.2) came in
              let ht : IsTable table' ms = subst (λ (j : List ℕ). IsTable j ms) (sym v.1) h in
              let e₁ : a ≡ Err (record { why = control_why w; passes = p }) = g.fed st hz ∙ ap (λ (j : Result Ended PassesError). fed_of st.nflag j order) d ∙ ap (λ (j : Result (Unit {0}) ControlError). ruled_fed j p) i in
              wrongly w c v.0 (as_refused tx y.room g.output ms st ht hz c e₁)
            where
              wrongly : (w : ControlError) → length xs ≡ p → order_of ms s (take n tx) ≡ wrong (control_refusal w) → Answers (refusal ms st (length xs) (refusal_of (control_why w))) m m' a
                  → Answers (of_order ms st xs (order_of ms s (take n tx))) m m' a
              wrongly w c q x₂ = rw (q, ← why_control w) x₂

          answers_of : (e : Result Ended PassesError) → r ≡ e → Answers (answer ms st whole) m m' a
          unfolding answered
          answers_of (Ok (Done n o p)) d =
              let c : IsDone traced whole left n o p = rw d at (x.runs.comes ms h (cs.each ms h) st came) in
              let u : Unruled m.table table' z z' order = rw d at ob.obeys in
              let hz : Holds z' c.state = subst (λ (j : List ℕ). Holds j c.state) (sym u.same_state) c.holds in
              let ht : IsTable table' ms = subst (λ (j : List ℕ). IsTable j ms) (sym u.same_table) h in
              let e₁ : a ≡ Ok (done_fed (withheld_by c.state.nflag o) n p) = g.fed c.state hz ∙ ap (λ (j : Result Ended PassesError). fed_of c.state.nflag j order) d in
              let l : Lies left (Ok (Done n o p)) = rw d at x.runs.lies in
              subst (λ (j : Answer). Answers j m m' a) (sym (answer_as ms st whole c.ends))
              (as_done tx y.room g.output ms st xs ht hz c.count c.occurs (size_lies (Ok (Done n o p)) l) (withheld_by c.state.nflag o) refl e₁)
          answers_of (Ok (AtControl n p)) d =
              let c : IsControl traced whole left n p = rw d at (x.runs.comes ms h (cs.each ms h) st came) in
              let v : Obeys (order_of ms c.state (take n tx)) m.table table' bf z' order = (rw d at ob.obeys) ms h (cs.each ms h) c.state c.holds in
              subst (λ (j : Answer). Answers j m m' a) (sym (answer_as ms st whole c.ends)) (ordered order refl d c.state c.count v)
          answers_of (Err e) d =
              let c : IsRefused whole (work_refusal e.why) e.begun = rw d at (x.runs.comes ms h (cs.each ms h) st came) in
              let u : Unruled m.table table' z z' order = rw d at ob.obeys in
              let back : z ≡ bf = (rw d at x.back).state in
              let hz : Holds z' st = subst (λ (j : List ℕ). Holds j st) (sym (u.same_state ∙ back)) came in
              let ht : IsTable table' ms = subst (λ (j : List ℕ). IsTable j ms) (sym u.same_table) h in
              let e₁ : a ≡ Err (passes_refused e) = g.fed st hz ∙ ap (λ (j : Result Ended PassesError). fed_of st.nflag j order) d in
              subst (λ (j : Answer). Answers j m m' a) (sym (answer_as ms st whole c.ends ∙ ap (refusal ms st (length xs)) (sym (why_work e.why))))
              (as_refused tx y.room g.output ms st ht hz c.count e₁)

          taken_answers : Answers (answer ms st whole) m m' a
          taken_answers = answers_of r refl

          -- a line that its passes refuse is not taken
          refused_not : (w : WorkWhy) {p : ℕ} → IsRefused whole (work_refusal w) p → is_taken a ≡ true → ⊥
          unfolding answered refusal
          refused_not w c t =
              let k : (answer ms st whole).kind ≡ refused_with (of_work (work_refusal w)) = ap (λ (b : Answer). b.kind) (answer_as ms st whole c.ends) in
              not_taken a out' t (sym k ∙ taken_answers.kind)

          traces_of : (e : Result Ended PassesError) → r ≡ e → traced ≡ true → is_taken a ≡ true → tr ≡ padded (trace_of xs) most_trace_bytes
          traces_of (Ok (Done n o p)) d q t = let c : IsDone traced whole left n o p = rw d at (x.runs.comes ms h (cs.each ms h) st came) in c.traces q
          traces_of (Ok (AtControl n p)) d q t = let c : IsControl traced whole left n p = rw d at (x.runs.comes ms h (cs.each ms h) st came) in c.traces q
          traces_of (Err e) d q t =
              let c : IsRefused whole (work_refusal e.why) e.begun = rw d at (x.runs.comes ms h (cs.each ms h) st came) in
              absurd (refused_not e.why c t)

          -- what the lent memory holds then: the trace if the flag was 1 when the line came
          module _ (room₂ : length trace ≡ most_trace_bytes) (l : length tr ≡ length lines) where
            abbrev text : Option (List ℕ)
            text = (answer ms st whole).trace_text

            by_flag : (i : Bool) → is_on st.trace ≡ i → is_taken a ≡ true → trace' ≡ traced_out text trace
            unfolding traced_out
            by_flag true i t =
                let q : traced ≡ true = room.flag st hb ∙ i in
                let e₁ : trace' ≡ padded tr (length trace) = g.traces st came ∙ ap (λ (j : Bool). laid_if j tr trace) (leaves_taken _ a t ∙ i) in
                let n : length tr ≡ length trace = l ∙ ap length (room.clear q) ∙ length-replicate {A = ℕ} most_trace_bytes 0 ∙ sym room₂ in
                let says : text ≡ some (trace_of xs) = trace_taken ms st sent taken_answers t ∙ tracing_on st xs (sym i) in
                padded_whole tr (length trace) n e₁ ∙ traces_of r refl q t ∙ ap (λ (k : Option (List ℕ)). traced_out k trace) (sym says)
            by_flag false i t =
                let e₁ : trace' ≡ trace = g.traces st came ∙ ap (λ (j : Bool). laid_if j tr trace) (leaves_taken _ a t ∙ i) in
                let says : text ≡ none = trace_taken ms st sent taken_answers t ∙ tracing_off st xs (sym i) in
                e₁ ∙ ap (λ (k : Option (List ℕ)). traced_out k trace) (sym says)

            by_answer : (b : Bool) → is_taken a ≡ b → trace' ≡ traced_out text trace
            unfolding traced_out
            by_answer true t = by_flag (is_on st.trace) refl t
            by_answer false t =
                let says : text ≡ none = trace_refused ms st sent taken_answers t in
                g.traces st came ∙ ap (λ (j : Bool). laid_if j tr trace) (leaves_none _ a t) ∙ ap (λ (k : Option (List ℕ)). traced_out k trace) (sym says)

        pub takes : length trace ≡ most_trace_bytes → length tr ≡ length lines → Takes (record { sent = sent; lent = lent_with m trace; left = lent_with m' trace' }) a
        takes t l = record { answers = taken_answers; traces = λ ms h st hb. by_answer ms h st hb t l (is_taken a) refl }

-- FEEDING

module _ (sent : Sent) (ms : Table) (st : State) where
  -- what the definition answers, by the first refusal that is due
  abbrev first_answer : Result (Unit {0}) FirstWhy → Answer
  first_answer (Err w) = refusal ms st 0 (refusal_of (first_why w))
  first_answer (Ok u) = answer ms st (history_of ms st sent)

  first_feed : (large long bad : Bool) → ltb most_budget sent.budget ≡ large → is_long sent.line ≡ long → is_bad sent.line ≡ bad → fed ms st sent ≡ first_answer (first_due large long bad)
  unfolding fed first_due pick is_bad
  first_feed true long bad e f g = rw (fed, lt-leb sent.budget most_budget (ltb-true most_budget sent.budget e)) refl
  first_feed false true bad e f g =
      rw (fed, le-leb sent.budget most_budget (ltb-false most_budget sent.budget e), lt-leb (length sent.line) most_line_bytes (ltb-true most_line_bytes (length sent.line) f)) refl
  first_feed false false bad e f g = by bad (ap (λ (j : Bool). pick j true (has_bad_byte sent.line)) (sym f) ∙ g)
    where
      by : (bad : Bool) → has_bad_byte sent.line ≡ bad → fed ms st sent ≡ first_answer (first_due false false bad)
      by true x =
          rw (fed, le-leb sent.budget most_budget (ltb-false most_budget sent.budget e), le-leb (length sent.line) most_line_bytes (ltb-false most_line_bytes (length sent.line) f), x) refl
      by false x =
          rw (fed, le-leb sent.budget most_budget (ltb-false most_budget sent.budget e), le-leb (length sent.line) most_line_bytes (ltb-false most_line_bytes (length sent.line) f), x) refl

  by_first : {r : Result (Unit {0}) FirstWhy} → Firsts sent.line sent.budget r → fed ms st sent ≡ first_answer r
  by_first x = first_feed (ltb most_budget sent.budget) (is_long sent.line) (is_bad sent.line) refl refl refl ∙ ap first_answer (sym x.says)

-- a line that nothing refuses is short enough
none_long : (large long bad : Bool) → first_due large long bad ≡ Ok tt → long ≡ false
unfolding first_due pick
none_long true long bad e = cc
none_long false true bad e = cc
none_long false false bad e = refl

pub fits : {t : List ℕ} {budget : ℕ} → Firsts t budget (Ok tt) → Fits t
fits {t} {budget} x =
    record {
      short = ltb-false most_line_bytes (length t) (none_long (ltb most_budget budget) (is_long t) (is_bad t) (sym x.says));
      bytes = x.bytes refl;
    }

module _ (m : Memories) (sent : Sent) where
  pub feeds_refused : {w : FirstWhy} → Firsts sent.line sent.budget (Err w) → Feeds (record { sent = sent; lent = m; left = m }) (Err (record { why = first_why w; passes = 0 }))
  unfolding refusal laid_out traced_out output_of
  feeds_refused {w} x =
      record {
        answers = λ ms h st hb.
            subst (λ (j : Answer). Answers j (untraced m) (untraced m) (Err (record { why = first_why w; passes = 0 }))) (sym (by_first sent ms st x)) (record { kind = refl; passes = refl; size = refl; table = h; state = hb; output = refl });
        traces = λ ms h st hb. ap (λ (j : Answer). traced_out j.trace_text m.trace) (sym (by_first sent ms st x));
      }

  pub feeds_taken : Firsts sent.line sent.budget (Ok tt) → {m' : Memories} {a : Result Fed LineError} → Takes (record { sent = sent; lent = m; left = m' }) a → Feeds (record { sent = sent; lent = m; left = m' }) a
  feeds_taken x {m'} {a} g =
      record {
        answers = λ ms k st hb. subst (λ (j : Answer). Answers j (untraced m) (untraced m') a) (sym (by_first sent ms st x)) (g.answers ms k st hb);
        traces = λ ms k st hb. g.traces ms k st hb ∙ ap (λ (j : Answer). traced_out j.trace_text m.trace) (sym (by_first sent ms st x));
      }

-- A line from one pass to the next, and at its end.
-- Assumes nothing.
use Prim.Native.Nat.{ℕ, suc, ◌+◌, ◌-◌, ◌*◌, ◌≤◌, ◌<◌}
use mathlib.Core.Path.{◌≡◌, refl, ap, sym, ◌∙◌, subst}
use mathlib.Core.Bool.{Bool, true, false, ◌||◌}
use mathlib.Core.List.{List, [], ◌∷◌, ◌++◌, append-nil}
use native.Mathlib.Omega.{arith}
use native.Mathlib.Numerals.{add-one}
use lib.ListN.{length, get_or, take, length-append}
use lib.Seq.{length-take-le}
use Rattle.macros.specs.Bounds.{most_trace_bytes}
use Rattle.macros.specs.Refusals.{WorkRefusal}
use Rattle.macros.specs.Refusals.WorkRefusal.{budget_used_up, trace_too_long}
use Rattle.macros.specs.Macro.{Table}
use Rattle.macros.specs.Formed.{Bytes, Formed}
use Rattle.form_table.specs.Form.{slot_bytes}
use Rattle.lines.specs.State.{State, InRange}
use Rattle.lines.specs.Replacing.{Work, Done}
use Rattle.lines.specs.Replacing.Done.{bad, good}
use Rattle.lines.specs.Pass.{occurred, outcome}
use Rattle.lines.specs.Line.{Numbered, Pass, Ending, Line, is_in, is_control, prepares, pass_behind, pass_of, newest_first, closed_by, text_of, passes, passes_of, had_occurrence, ending, passes_then}
use Rattle.lines.specs.Line.Line.{ended, passed}
use Rattle.lines.specs.Line.Ending.{refused, done}
use Rattle.lines.specs.Trace.{three_lines, lines_of, trace_of, cut_if}
use Rattle.lines.proofs.TraceSteps.{lines_none, lines_bad, lines_some, trace_one, cut_ended, cut_on, cut_over, cut_free}
use Rattle.lines.proofs.NextLaws.{to_control, to_done, to_used, to_refused, to_next, to_again, then_one, then_ending, then_passes, occurrence_one}
use Rattle.lines.proofs.KeepBytes.{bytes_onto}
use Rattle.lines.proofs.KeepWork.{Sound, SoundDone}
use Rattle.lines.proofs.KeepPass.{made_sound}
use Rattle.form_state.specs.Access.{Holds}
use Rattle.line_memory.specs.Memory.{IsTable, padded}
use Rattle.line_memory.proofs.Copying.{padded_front}
use Rattle.line_begin.specs.Flags.{begun_flags}
use Rattle.line_stand.specs.Closed.{closed_flags, OpenBelow}
use Rattle.line_stand.specs.Standing.{Open}
use Rattle.line_passes.specs.Due.{due_below, Closes}
use Rattle.line_passes.specs.Contract.{IsDone, IsControl, IsRefused}
use Rattle.line_passes.specs.Passing.{Given, Memories, Stands, left_of}
use Rattle.line_stand.specs.declared.Stand.{Stand}
use Rattle.line_memory.proofs.Slotting.{SlotAt}
use Rattle.line_passes.proofs.Closing.{due_all, none_due, first_due_lem, closes_more, closes_begun, begun_more, begun_closed}

-- A PASS, of the macro e over the text t from the state st

module _ (begun : List ℕ) (e : Numbered) (t : List ℕ) (st : State) where
  pub new_bytes : (v : Work) → outcome (pass_of begun e t st).events ≡ good v → Formed e.macro → Bytes t → InRange st → Bytes (text_of v)
  unfolding text_of
  new_bytes v q f c g = let s : Sound v = subst SoundDone q (made_sound begun e t st f c g) in bytes_onto v.out [] s.bytes tt

  -- its macro and its text
  pub pass_which : (pass_of begun e t st).which ≡ e
  unfolding pass_of pass_behind
  pass_which = by (prepares (is_in e.number begun) e.macro st)
    where
      by : (d : Done) → (pass_behind e t st d).which ≡ e
      by (bad r w) = refl
      by (good w) = refl

  pub pass_text : (pass_of begun e t st).text ≡ t
  unfolding pass_of pass_behind
  pass_text = by (prepares (is_in e.number begun) e.macro st)
    where
      by : (d : Done) → (pass_behind e t st d).text ≡ t
      by (bad r w) = refl
      by (good w) = refl

-- WHERE THE LINE STANDS

or_true : (b : Bool) → (b || true) ≡ true
or_true true = refl
or_true false = refl

or_false : (b : Bool) → (b || false) ≡ b
or_false true = refl
or_false false = refl

-- a trace's room, which matters only where there is a trace
cut_room : (b : Bool) (n k : ℕ) (l : Line) → (b ≡ true → n ≡ k) → cut_if b n l ≡ cut_if b k l
cut_room true n k l h = ap (λ (j : ℕ). cut_if true j l) (h refl)
cut_room false n k l h = cut_free n k l

module _ (ms : Table) (whole : Line) (g : Given) (m : Memories) (h : IsTable g.table ms) (a : Stand) (s : Stands whole ms g m a) where
  t : List ℕ
  t = take a.size m.text

  room : ℕ
  room = most_trace_bytes - a.written

  rest : Line
  rest = passes ms (g.budget - a.begun) s.closed s.begun (due_below a.due s.closed ms) s.state (take a.size m.text)

  came : (l : Line) → rest ≡ l → whole ≡ passes_then s.so_far (cut_if g.traced room l)
  unfolding rest room
  came l e = s.rest ∙ ap (λ (k : Line). passes_then s.so_far (cut_if g.traced room k)) e

  -- it ends here
  module _ (e : Ending) (ends_so : rest ≡ ended e) where
    came_to : whole ≡ passes_then s.so_far (ended e)
    came_to = came (ended e) ends_so ∙ ap (passes_then s.so_far) (cut_ended g.traced room e)

    all_passes : passes_of whole ≡ s.so_far
    unfolding passes_of
    all_passes = ap passes_of came_to ∙ then_passes s.so_far (ended e) ∙ append-nil s.so_far

    ends_here : ending whole ≡ e
    unfolding ending
    ends_here = ap ending came_to ∙ then_ending s.so_far (ended e)

    count_here : length (passes_of whole) ≡ a.begun
    count_here = ap length all_passes ∙ s.count

    occurs_here : had_occurrence (passes_of whole) ≡ a.occurred
    occurs_here = ap had_occurrence all_passes ∙ s.occurs

    traces_here : (g.traced ≡ true → Open m.trace a.written) → g.traced ≡ true → m.trace ≡ padded (trace_of (passes_of whole)) most_trace_bytes
    traces_here o q = (o q).zeros ∙ ap (λ (k : List ℕ). padded k most_trace_bytes) (s.lines q ∙ ap trace_of (sym all_passes))

  -- one pass further
  module _ (x : Pass) (l : Line) (came_to : whole ≡ passes_then s.so_far (passed x l)) where
    one_more : List Pass
    one_more = s.so_far ++ (x ∷ [])

    behind_more : whole ≡ passes_then one_more l
    unfolding one_more
    behind_more = came_to ∙ sym (then_one s.so_far x l)

    count_more : length one_more ≡ a.begun + 1
    unfolding one_more
    count_more = length-append s.so_far (x ∷ []) ∙ ap (λ (n : ℕ). n + 1) s.count

    occurs_more : (o : Bool) → occurred x.events ≡ o → had_occurrence one_more ≡ (a.occurred || o)
    unfolding one_more
    occurs_more o e = occurrence_one s.so_far x ∙ rw (s.occurs, e) refl

    traces_more : trace_of one_more ≡ trace_of s.so_far ++ lines_of x
    unfolding one_more
    traces_more = trace_one s.so_far x

    refused_more : {r : WorkRefusal} → l ≡ ended (refused r) → IsRefused whole r (a.begun + 1)
    unfolding passes_of ending
    refused_more {r} e =
        let q : whole ≡ passes_then one_more (ended (refused r)) = behind_more ∙ ap (passes_then one_more) e in
        record {
          ends = ap ending q ∙ then_ending one_more (ended (refused r));
          count = ap (λ (y : Line). length (passes_of y)) q ∙ ap length (then_passes one_more (ended (refused r)) ∙ append-nil one_more) ∙ count_more;
        }

  -- a pass whose lines fit
  came_pass : (x : Pass) (l : Line) → rest ≡ passed x l → (g.traced ≡ true → length (lines_of x) ≤ room) → whole ≡ passes_then s.so_far (passed x (cut_if g.traced (room - length (lines_of x)) l))
  came_pass x l e f = came (passed x l) e ∙ ap (passes_then s.so_far) (cut_on g.traced room x l f)

  -- one without lines
  came_quiet : (x : Pass) (l : Line) → rest ≡ passed x l → lines_of x ≡ [] → whole ≡ passes_then s.so_far (passed x (cut_if g.traced room l))
  came_quiet x l e f =
      let n : length (lines_of x) ≡ 0 = ap length f in
      let k : room - length (lines_of x) ≡ room = omega arith in
      came_pass x l e (λ q. omega arith) ∙ ap (λ (j : ℕ). passes_then s.so_far (passed x (cut_if g.traced j l))) k

  pub at_control : (g.traced ≡ true → Open m.trace a.written) → is_control (take a.size m.text) ≡ true → IsControl g.traced whole (left_of m) a.size a.begun
  unfolding rest
  at_control o c =
      let x = to_control ms s.closed s.begun s.state (take a.size m.text) (g.budget - a.begun) _ c in
      record { state = s.state; holds = s.holds; ends = ends_here _ x; count = count_here _ x; traces = traces_here _ x o }

  module _ (c : is_control (take a.size m.text) ≡ false) (l : a.due ≤ length ms) where
    pub at_done : (g.traced ≡ true → Open m.trace a.written) → OpenBelow m.flags a.due 0 → IsDone g.traced whole (left_of m) a.size a.occurred a.begun
    unfolding rest
    at_done tr o =
        let d = none_due g.table ms h m.flags s.closed s.closes a.due l o in
        let x : rest ≡ ended (done (take a.size m.text) s.state) =
        ap (λ (y : List Numbered). passes ms (g.budget - a.begun) s.closed s.begun y s.state (take a.size m.text)) d ∙ to_done ms s.closed s.begun s.state (take a.size m.text) (g.budget - a.begun) c in
        record { state = s.state; holds = s.holds; ends = ends_here _ x; occurs = occurs_here _ x; count = count_here _ x; traces = traces_here _ x tr }

    -- the pass of the macro k is due
    module _ (k : ℕ) (o : OpenBelow m.flags a.due (suc k)) (slot : SlotAt g.table ms k) where
      e : Numbered
      e = record { number = k; macro = slot.macro }

      first : (n : ℕ) → g.budget - a.begun ≡ n → rest ≡ passes ms n s.closed s.begun (e ∷ due_below k s.closed ms) s.state (take a.size m.text)
      unfolding rest e
      first n q = rw (q, first_due_lem g.table ms h m.flags s.closed s.closes a.due k l o slot) refl

      pub at_used : g.budget ≤ a.begun → IsRefused whole budget_used_up a.begun
      at_used q =
          let x = first 0 (omega arith) ∙ to_used ms s.closed s.begun s.state (take a.size m.text) e (due_below k s.closed ms) c in
          record { ends = ends_here _ x; count = count_here _ x }

      module _ (y : a.begun < g.budget) (v : Work) where
        left : ℕ
        left = g.budget - (a.begun + 1)

        lefts : g.budget - a.begun ≡ suc left
        unfolding left
        lefts = omega arith

        -- the pass
        abbrev here : Pass
        here = pass_of s.begun (record { number = k; macro = slot.macro }) (take a.size m.text) s.state

        pub pass_refused : (r : WorkRefusal) → outcome here.events ≡ bad r v → IsRefused whole r (a.begun + 1)
        unfolding e
        pass_refused r q =
            refused_more here _
            (came_quiet here _ (first (suc left) lefts ∙ to_refused ms s.closed s.begun s.state (take a.size m.text) e (due_below k s.closed ms) c left r v q) (lines_bad here r v q))
            (cut_ended g.traced room (refused r))

        module _ (q : outcome here.events ≡ good v) where
          -- the lines of a pass with an occurrence
          lines_are : occurred here.events ≡ true → {new : List ℕ} → text_of v ≡ new → three_lines (take a.size m.text) (k + 1) new ≡ lines_of here
          lines_are f w =
              rw (add-one k, ← w)
              (sym (lines_some here v q f
              ∙ ap (λ (n : Numbered). three_lines here.text (suc n.number) (text_of v)) (pass_which s.begun _ _ _)
              ∙ ap (λ (t : List ℕ). three_lines t (suc k) (text_of v)) (pass_text s.begun _ _ _)))

          -- they do not fit
          pub pass_cut : occurred here.events ≡ true → (new : List ℕ) → text_of v ≡ new → g.traced ≡ true
              → most_trace_bytes < a.written + length (three_lines (take a.size m.text) (k + 1) new) → a.written ≤ most_trace_bytes → IsRefused whole trace_too_long (a.begun + 1)
          unfolding e room left
          pass_cut f new w asked full fits =
              let n : length (three_lines (take a.size m.text) (k + 1) new) ≡ length (lines_of here) = ap length (lines_are f w) in
              let over : most_trace_bytes - a.written < length (lines_of here) = omega arith in
              let more : Line = passes ms left (closed_by e s.closed) (k ∷ s.begun) (newest_first (closed_by e s.closed) ms) v.state (text_of v) in
              let x : rest ≡ passed here more = first (suc left) lefts ∙ to_again ms s.closed s.begun s.state (take a.size m.text) e (due_below k s.closed ms) c left v q f in
              let z : whole ≡ passes_then s.so_far (cut_if true (most_trace_bytes - a.written) (passed here more)) =
              came (passed here more) x ∙ ap (λ (b : Bool). passes_then s.so_far (cut_if b (most_trace_bytes - a.written) (passed here more))) asked in
              refused_more here (ended (refused trace_too_long)) (z ∙ ap (passes_then s.so_far) (cut_over (most_trace_bytes - a.written) here more over)) refl

          module _ (m' : Memories) (held : Holds m'.state v.state) where
            pub pass_none : occurred here.events ≡ false → m'.text ≡ m.text → k < length m.flags → m'.flags ≡ begun_flags m.flags k → m'.trace ≡ m.trace
                → Stands whole ms g m' (record { size = a.size; occurred = a.occurred; due = k; begun = a.begun + 1; written = a.written })
            unfolding e left one_more room
            pass_none f i fl j tr =
                let x = came_quiet here _ (first (suc left) lefts ∙ to_next ms s.closed s.begun s.state (take a.size m.text) e (due_below k s.closed ms) c left v q f) (lines_none here f) in
                record {
                  so_far = one_more _ _ x;
                  state = v.state;
                  closed = s.closed;
                  begun = k ∷ s.begun;
                  rest = rw i (behind_more _ _ x);
                  count = count_more _ _ x;
                  occurs = occurs_more _ _ x false f ∙ or_false a.occurred;
                  lines = λ asked. ap (take a.written) tr ∙ s.lines asked ∙ sym (append-nil (trace_of s.so_far)) ∙ ap (λ (k : List ℕ). trace_of s.so_far ++ k) (sym (lines_none here f)) ∙ sym (traces_more _ _ x);
                  holds = held;
                  closes = rw j (closes_begun m.flags k fl s.closed (o.opened k refl) s.closes);
                  begins = rw j (begun_more m.flags k fl s.begun s.begins);
                }

            pub pass_some : occurred here.events ≡ true → (n count written : ℕ) (new : List ℕ) → text_of v ≡ new → new ≡ take n m'.text
                → k < length m.flags → m'.flags ≡ closed_flags (begun_flags m.flags k) (get_or g.table (slot_bytes * k) 0) k → k < length (begun_flags m.flags k) → length ms ≡ count
                → (g.traced ≡ true → Open m.trace a.written)
                → (g.traced ≡ true → (written ≡ a.written + length (three_lines (take a.size m.text) (k + 1) new)) × (written ≤ most_trace_bytes)
                × (m'.trace ≡ padded (take a.written m.trace ++ three_lines (take a.size m.text) (k + 1) new) most_trace_bytes))
                → Stands whole ms g m' (record { size = n; occurred = true; due = count; begun = a.begun + 1; written = written })
            unfolding e left closed_by one_more room
            pass_some f n count written new w u i z i₂ y op tr =
                let d : length (three_lines (take a.size m.text) (k + 1) new) ≡ length (lines_of here) = ap length (lines_are f w) in
                let x = came_pass here _ (first (suc left) lefts ∙ to_again ms s.closed s.begun s.state (take a.size m.text) e (due_below k s.closed ms) c left v q f)
                (λ asked. omega (arith, (tr asked).0, (tr asked).1)) in
                let flags : Closes m'.flags (closed_by e s.closed) =
                subst (λ (j : List ℕ). Closes j (closed_by e s.closed)) (sym (z ∙ ap (λ (j : ℕ). closed_flags (begun_flags m.flags k) j k) slot.first))
                (closes_more (begun_flags m.flags k) s.closed k (closes_begun m.flags k i s.closed (o.opened k refl) s.closes) i₂ slot.macro.symbol) in
                let rooms : (l : Line) → cut_if g.traced (most_trace_bytes - a.written - length (lines_of here)) l ≡ cut_if g.traced (most_trace_bytes - written) l =
                λ l. cut_room g.traced (most_trace_bytes - a.written - length (lines_of here)) (most_trace_bytes - written) l (λ asked. omega (arith, (tr asked).0)) in
                record {
                  so_far = one_more _ _ x;
                  state = v.state;
                  closed = closed_by e s.closed;
                  begun = k ∷ s.begun;
                  rest = rw (← u, ← w, due_all (closed_by e s.closed) ms count y) (behind_more _ _ x ∙ ap (passes_then (one_more _ _ x)) (rooms _));
                  count = count_more _ _ x;
                  occurs = occurs_more _ _ x true f ∙ or_true a.occurred;
                  lines = λ asked.
                      let p = length-take-le a.written m.trace (omega (arith, (op asked).inside, (op asked).size)) in
                      let r : length (take a.written m.trace ++ three_lines (take a.size m.text) (k + 1) new) ≡ written = length-append (take a.written m.trace) _ ∙ omega (arith, p, (tr asked).0) in
                      padded_front _ most_trace_bytes written r (tr asked).2 ∙ ap (λ (j : List ℕ). j ++ three_lines (take a.size m.text) (k + 1) new) (s.lines asked)
                      ∙ ap (λ (j : List ℕ). trace_of s.so_far ++ j) (lines_are f w) ∙ sym (traces_more _ _ x);
                  holds = held;
                  closes = flags;
                  begins = rw z (begun_closed (begun_flags m.flags k) k i₂ s.begun _ (begun_more m.flags k i s.begun s.begins));
                }

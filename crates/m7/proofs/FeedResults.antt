-- What feeding a line says, taken to the result of m7_feed.
use Prim.Native.Nat.{ℕ}
use mathlib.Core.Path.{◌≡◌, refl, sym, ap, ◌∙◌}
use mathlib.Core.Bool.{Bool, true, false, ◌&&◌}
use mathlib.Core.List.{List, []}
use native.Mathlib.Omega.{arith}
use borrow.Author.Tests.{eq-eqb, ne_eqb, eqb-true}
use lib.Dec.{eqb}
use lib.ListN.{length}
use Rattle.std.specs.Prelude.{Result, Ok, Err, Option, Some, None}
use Rattle.macros.specs.Bounds.{most_line_bytes, most_trace_bytes}
use Rattle.macros.specs.Refusals.{number, host_number}
use Rattle.macros.specs.Macro.{Table, pick}
use Rattle.macros.specs.Formed.{Octets}
use Rattle.form_table.specs.Form.{table_bytes}
use Rattle.form_table.specs.Check.{checks}
use Rattle.form_table.proofs.Basics.{clash, and_left, and_right}
use Rattle.form_table.proofs.Tables.{check_exact, form_size}
use Rattle.lines.specs.Line.{Sent}
use Rattle.lines.specs.Feeding.{Kind, number_of, place_of, kind_number, feed}
use Rattle.lines.specs.Feeding.{Answer as Answered}
use Rattle.lines.proofs.FeedKeeps.{feed_keeps}
use Rattle.form_state.specs.Form.{state_bytes}
use Rattle.form_state.specs.Check.{state_checks}
use Rattle.form_state.proofs.Decode.{state_check_exact}
use Rattle.form_state.proofs.Held.{passed_is, is_long_lem}
use Rattle.line_memory.specs.Memory.{Memories, IsTable}
use Rattle.line_feed.specs.Contract.{Untraced, Lent, Answers}
use Rattle.line_answer.specs.Fed.{kind_of, passes_of, size_of}
use Rattle.line_feed.specs.Contract.{Feeds as FeedsLine}
use Rattle.line_answer.specs.declared.Fed.{Fed}
use Rattle.line_answer.specs.declared.LineError.{LineError}
use Rattle.line_answer.specs.declared.Fed.TheVariants.{Out, Withheld, Control}
use Rattle.line_answer.specs.declared.Answer.{Answer}
use Rattle.line_answer.specs.Replies.{reply, line_reply, told, Small}
use Rattle.m7.specs.Feeding.{Call, answer_of, sized_to_feed, Feeds}
use Rattle.m7.specs.HostRefusal.{first_due, host_refusal}
use Rattle.m7.proofs.FeedBounds.{feed_place, feed_passes}

-- THE ANSWER IN NUMBERS

-- the same whatever the output holds
abbrev told_of : Result Fed LineError → List ℕ → Answer
told_of r o = line_reply (number_of (kind_of r o)) (place_of (kind_of r o)) (passes_of r) (kind_number (kind_of r o)) (size_of r)

told_any : (r : Result Fed LineError) (o : List ℕ) → told r ≡ told_of r o
unfolding told number_of place_of kind_number
told_any (Ok (Out p n)) o = refl
told_any (Ok (Withheld p)) o = refl
told_any (Ok (Control p)) o = refl
told_any (Err w) o = refl

place_any : (r : Result Fed LineError) (o : List ℕ) → place_of (kind_of r []) ≡ place_of (kind_of r o)
unfolding place_of
place_any (Ok (Out p n)) o = refl
place_any (Ok (Withheld p)) o = refl
place_any (Ok (Control p)) o = refl
place_any (Err w) o = refl

module _ {a : Answered} {m m' : Untraced} {r : Result Fed LineError} (h : Answers a m m' r) where
  told_is : told r ≡ answer_of a
  unfolding answer_of
  told_is =
      told_any r m'.output
      ∙ ap (λ (k : Kind). line_reply (number_of k) (place_of k) (passes_of r) (kind_number k) (size_of r)) (sym h.kind)
      ∙ ap (λ (p : ℕ). line_reply (number_of a.kind) (place_of a.kind) p (kind_number a.kind) (size_of r)) (sym h.passes)
      ∙ ap (line_reply (number_of a.kind) (place_of a.kind) a.passes (kind_number a.kind)) (sym h.size)

-- THE CALL

-- the form of a table and of a state have the sizes that the docs state
pub lent_sized : (m : Memories) → Lent m → sized_to_feed m ≡ true
unfolding sized_to_feed
lent_sized m l =
    let t = l.own.table in
    let size : length m.table ≡ table_bytes = ap length (sym t.1.form) ∙ (form_size t.0 t.1.accepted).0 in
    rw (eq-eqb _ _ size, eq-eqb _ _ (is_long_lem m.state l.own.state), eq-eqb _ _ l.own.room, eq-eqb _ _ l.room) refl

-- the tests of the host's refusals
record Tests (m : Memories) (sized table state : Bool) : Type 0 where
  sizes : sized_to_feed m ≡ sized
  tables : checks m.table ≡ table
  states : state_checks m.state ≡ state

module _ (sent : Sent) (m : Memories) where
  -- a call that leaves the memories as they were
  abbrev same : Answer → Call
  same a = record { feeding = record { sent = sent; lent = m; left = m }; answer = a }

  -- 3
  other : {a : Answer} → sized_to_feed m ≡ false → a ≡ reply 3 0 0 → Feeds (same a)
  unfolding reply number host_number
  other z e =
      record {
        other_size = λ y. record { answer = e; memories = refl };
        no_table = λ y no. clash y z;
        no_state = λ y ms f no. clash y z;
        fed = λ y ms f st h. clash y z;
      }

  module _ (all-sized : sized_to_feed m ≡ true) (ot : Octets m.table) where
    -- 1
    no_table_lem : {a : Answer} → checks m.table ≡ false → a ≡ reply 1 0 0 → Feeds (same a)
    unfolding reply number host_number
    no_table_lem z e =
        record {
          other_size = λ y. clash all-sized y;
          no_table = λ y no. record { answer = e; memories = refl };
          no_state = λ y ms f no. clash ((check_exact m.table ot).1 (ms, f.accepted, f.form)) z;
          fed = λ y ms f st s. clash ((check_exact m.table ot).1 (ms, f.accepted, f.form)) z;
        }

    module _ (z : checks m.table ≡ true) (ob : Octets m.state) where
      some_table : (ms : Table) × IsTable m.table ms
      some_table = let s = (check_exact m.table ot).0 z in (s.0, record { accepted = s.1; form = s.2 })

      -- 2
      no_state_lem : {a : Answer} → state_checks m.state ≡ false → a ≡ reply 2 0 0 → Feeds (same a)
      unfolding reply number host_number
      no_state_lem v e =
          record {
            other_size = λ y. clash all-sized y;
            no_table = λ y no. let s = some_table in absurd (no s.0 s.1);
            no_state = λ y ms f no. record { answer = e; memories = refl };
            fed = λ y ms f st s. clash ((state_check_exact m.state ob).1 (st, s.in_range, s.form)) v;
          }

      module _ (v : state_checks m.state ≡ true) where
        last_two : (eqb (length m.output) most_line_bytes && eqb (length m.trace) most_trace_bytes) ≡ true
        unfolding sized_to_feed
        last_two = and_right (eqb (length m.state) state_bytes) _ (and_right (eqb (length m.table) table_bytes) _ all-sized)

        room : length m.output ≡ most_line_bytes
        unfolding sized_to_feed
        room = eqb-true _ _ (and_left (eqb (length m.output) most_line_bytes) _ last_two)

        trace_room : length m.trace ≡ most_trace_bytes
        unfolding sized_to_feed
        trace_room = eqb-true _ _ (and_right (eqb (length m.output) most_line_bytes) _ last_two)

        lends : Lent m
        lends = record { own = record { table = some_table; state = passed_is m.state ob v; room = room }; room = trace_room }

  -- a line that is fed to a table and a state: none of the host's refusals is due
  module _ (l : Lent m) {m' : Memories} {r : Result Fed LineError} (w : FeedsLine (record { sent = sent; lent = m; left = m' }) r) where
    pub small : Octets sent.line → Small r
    small ol =
        let s = l.own.table in
        let u = l.own.state in
        let d = w.answers s.0 s.1 u.0 u.1 in
        let keeps = feed_keeps s.0 u.0 sent s.1.accepted u.1.in_range ol in
        let p : place_of (kind_of r []) ≡ place_of (feed s.0 u.0 sent).kind = place_any r m'.output ∙ ap place_of (sym d.kind) in
        record {
          place = omega (arith, p, feed_place s.0 u.0 sent);
          passes = omega (arith, d.passes, feed_passes s.0 u.0 sent s.1.accepted u.1.in_range ol);
          size = omega (arith, d.size, keeps.fits);
        }

    pub feeds : {a : Answer} → a ≡ told r → Feeds (record { feeding = record { sent = sent; lent = m; left = m' }; answer = a })
    feeds e =
        record {
          other_size = λ y. clash (lent_sized m l) y;
          no_table = λ y no. absurd (no l.own.table.0 l.own.table.1);
          no_state = λ y ms f no. absurd (no l.own.state.0 l.own.state.1);
          fed = λ y ms f st s.
              let d = w.answers ms f st s in
              record {
                answers = e ∙ told_is d;
                table_holds = d.table;
                state_holds = d.state;
                output_holds = d.output;
                trace_holds = w.traces ms f st s;
              };
        }

  -- which refusal is due
  module _ (ot : Octets m.table) (ob : Octets m.state) where
    pub refused_first : {r : ℕ} → Some r ≡ host_refusal m → {a : Answer} → a ≡ reply r 0 0 → Feeds (same a)
    unfolding host_refusal first_due pick
    refused_first {r} e {a} f = by (sized_to_feed m) refl (checks m.table) refl (state_checks m.state) refl
      where
        told₂ : (k : ℕ) → r ≡ k → a ≡ reply k 0 0
        told₂ k q = f ∙ ap (λ (x : ℕ). reply x 0 0) q

        by : (x : Bool) → sized_to_feed m ≡ x → (y : Bool) → checks m.table ≡ y → (z : Bool) → state_checks m.state ≡ z → Feeds (same a)
        by false p y q z s = other p (told₂ 3 (let w : Some r ≡ Some 3 = e ∙ rw p refl in cc))
        by true p false q z s = no_table_lem p ot q (told₂ 1 (let w : Some r ≡ Some 1 = e ∙ rw (p, q) refl in cc))
        by true p true q false s = no_state_lem p ot q ob s (told₂ 2 (let w : Some r ≡ Some 2 = e ∙ rw (p, q, s) refl in cc))
        by true p true q true s = let w : Some r ≡ None = e ∙ rw (p, q, s) refl in cc

    module _ (e : None ≡ host_refusal m) where
      none_due : Tests m true true true
      unfolding host_refusal first_due pick
      none_due = by (sized_to_feed m) refl (checks m.table) refl (state_checks m.state) refl
        where
          by : (x : Bool) → sized_to_feed m ≡ x → (y : Bool) → checks m.table ≡ y → (z : Bool) → state_checks m.state ≡ z → Tests m true true true
          by false p y q z s = let w : ◌≡◌ {A = Option ℕ} None (Some 3) = e ∙ rw p refl in cc
          by true p false q z s = let w : ◌≡◌ {A = Option ℕ} None (Some 1) = e ∙ rw (p, q) refl in cc
          by true p true q false s = let w : ◌≡◌ {A = Option ℕ} None (Some 2) = e ∙ rw (p, q, s) refl in cc
          by true p true q true s = record { sizes = p; tables = q; states = s }

      pub lent : Lent m
      lent = let z = none_due in lends z.sizes ot z.tables ob z.states

      module _ {m' : Memories} {f : Result Fed LineError} (w : FeedsLine (record { sent = sent; lent = m; left = m' }) f) where
        pub is_small : Octets sent.line → Small f
        is_small ol = small lent w ol

        pub is_fed : {a : Answer} → a ≡ told f → Feeds (record { feeding = record { sent = sent; lent = m; left = m' }; answer = a })
        is_fed g = feeds lent w g

-- THE SIZES

module _ (m : Memories) where
  pub sized_table : (length m.table ≡ table_bytes → ⊥) → false ≡ sized_to_feed m
  unfolding sized_to_feed
  sized_table f = rw (ne_eqb _ _ f) refl

  module _ (g : length m.table ≡ table_bytes) where
    pub sized_state : (length m.state ≡ state_bytes → ⊥) → false ≡ sized_to_feed m
    unfolding sized_to_feed
    sized_state f = rw (eq-eqb _ _ g, ne_eqb _ _ f) refl

    module _ (h : length m.state ≡ state_bytes) where
      pub sized_output : (length m.output ≡ most_line_bytes → ⊥) → false ≡ sized_to_feed m
      unfolding sized_to_feed
      sized_output f = rw (eq-eqb _ _ g, eq-eqb _ _ h, ne_eqb _ _ f) refl

      pub sized_trace : length m.output ≡ most_line_bytes → eqb (length m.trace) most_trace_bytes ≡ sized_to_feed m
      unfolding sized_to_feed
      sized_trace k = rw (eq-eqb _ _ g, eq-eqb _ _ h, eq-eqb _ _ k) refl

-- THE REFUSALS BEFORE A LINE

module _ {sized : Bool} (table state : Bool) where
  pub due_size : sized ≡ false → Some 3 ≡ first_due sized table state
  unfolding first_due pick
  due_size e = rw e refl

module _ {sized table : Bool} (state : Bool) (e : sized ≡ true) where
  pub due_table : table ≡ false → Some 1 ≡ first_due sized table state
  unfolding first_due pick
  due_table f = rw (e, f) refl

module _ {sized table state : Bool} (e : sized ≡ true) (f : table ≡ true) where
  pub due_state : state ≡ false → Some 2 ≡ first_due sized table state
  unfolding first_due pick
  due_state g = rw (e, f, g) refl

  pub due_none : state ≡ true → None ≡ first_due sized table state
  unfolding first_due pick
  due_none g = rw (e, f, g) refl

pub hosts : (m : Memories) {sized table state : Bool} {r : Option ℕ}
    → sized ≡ sized_to_feed m → table ≡ checks m.table → state ≡ state_checks m.state → r ≡ first_due sized table state → r ≡ host_refusal m
unfolding host_refusal
hosts m {sized} {table} {state} e f g h =
    h
    ∙ (ap (λ (x : Bool). first_due x table state) e
    ∙ (ap (λ (x : Bool). first_due (sized_to_feed m) x state) f ∙ ap (λ (x : Bool). first_due (sized_to_feed m) (checks m.table) x) g))

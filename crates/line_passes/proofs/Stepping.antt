-- One step of a line: the end, or a pass.
-- Assumes nothing.
use Prim.Native.Nat.{ℕ, suc, ◌+◌, ◌-◌, ◌*◌, ◌≤◌, ◌<◌}
use mathlib.Core.Path.{◌≡◌, refl, ap, sym, ◌∙◌, subst}
use mathlib.Core.Bool.{Bool, true, false, false≢true}
use mathlib.Core.Logic.{inl, inr}
use mathlib.Core.List.{List, ◌∷◌, ◌++◌}
use native.Mathlib.Omega.{arith}
use mir.Syntax.{w64}
use mir.Val.{Fits as FitsIn}
use lib.ListN.{length, get_or, take, drop, length-append, length-set}
use lib.Seq.{length-take-le}
use Rattle.macros.specs.Bounds.{most_macros, most_line_bytes, most_trace_bytes}
use Rattle.macros.specs.Macro.{Table}
use Rattle.macros.specs.Formed.{Bytes}
use Rattle.form_table.specs.Form.{slot_bytes}
use Rattle.lines.specs.Line.{pass_of, is_control}
use Rattle.form_state.specs.Access.{IsState}
use Rattle.pass_replace.specs.Contract.{IsSlot}
use Rattle.pass_one.specs.Contract.{size_of}
use Rattle.pass_lack.specs.Lacking.{flags_of}
use Rattle.pass_lack.proofs.LackLaws.{flags_size}
use Rattle.std.specs.Prelude.{Result, Ok, Err, IsErr, IsErrAnd}
use Rattle.std.proofs.lemmas.Result.{err_from_is_err_and}
use Rattle.refusals.specs.declared.WorkError.{WorkError}
use Rattle.pass_moment.specs.declared.Passed.{Passed}
use Rattle.line_memory.specs.Memory.{IsTable, padded}
use Rattle.line_memory.proofs.Copying.{padded_front, padded_size}
use Rattle.line_memory.proofs.Slotting.{SlotAt, slot_at, table_size}
use Rattle.line_passes.specs.Contract.{Left, LineLeft}
use Rattle.line_begin.specs.Flags.{Begun, begun_flags}
use Rattle.line_stand.specs.Closed.{closed_flags, OpenBelow}
use Rattle.line_begin.specs.Beginning.{Tried, PassLent, PassComes, PassRuns}
use Rattle.line_stand.specs.Standing.{OverBy, DueBy, Dues, Open, Texts, lines_here, Again, Cut, Followed, FollowedWith, Follows}
use Rattle.line_passes.specs.Passing.{Given, Memories, Onward, Ready, left_of, PassDue, Steps, Ends}
use Rattle.line_stand.specs.declared.Why.TheVariants.{BudgetUsedUp, AtWork}
use Rattle.line_stand.specs.declared.Stand.{Stand}
use Rattle.line_stand.specs.declared.Ended.{Ended}
use Rattle.line_stand.specs.declared.Ended.TheVariants.{Done, Control}
use Rattle.line_stand.specs.declared.PassesError.{PassesError}
use Rattle.line_stand.specs.declared.Due.{Due}
use Rattle.line_stand.specs.declared.Due.TheVariants.{Over as Ending}
use Rattle.line_passes.proofs.Closing.{begun_more, begun_closed}
use Rattle.line_passes.proofs.Running.{new_bytes, at_control, at_done, at_used, pass_refused, pass_cut, pass_none, pass_some}

-- the bytes lent for the slot of the macro k
abbrev pub slot_part : List ℕ → ℕ → List ℕ
slot_part tb k = take (1024 * k + 1024 - 1024 * k) (drop (1024 * k) tb)

part_slot : (tb : List ℕ) (k : ℕ) → slot_part tb k ≡ take slot_bytes (drop (slot_bytes * k) tb)
part_slot tb k = let e : 1024 * k + 1024 - 1024 * k ≡ 1024 = omega arith in rw e refl

pub part_order : (k : ℕ) → 1024 * k ≤ 1024 * k + 1024
part_order k = omega arith

-- a pass's answer, known
done_as : {s t : List ℕ} {m m' : Tried} {k : ℕ} {r : Result Passed WorkError} → PassRuns s t m m' k r → (r₂ : Result Passed WorkError) → r ≡ r₂ → PassRuns s t m m' k r₂
done_as p r₂ e = rw e at p

begun_size : (flags : List ℕ) (k : ℕ) → length (begun_flags flags k) ≡ length flags
unfolding begun_flags
begun_size flags k = length-set flags k 2

module _ {g : Given} {m : Memories} {a : Stand} (y : Ready g m a) where
  pub size_fits : a.size ≤ length m.text
  size_fits = omega (arith, y.size, y.text)

  count_few : g.count ≤ most_macros
  count_few = omega (arith, y.table.counted, y.table.is_table.accepted.count)

  pub due_lent : (a.due ≤ length m.flags) × (a.begun ≤ g.budget)
  due_lent = (omega (arith, y.due, count_few, y.flags), y.begun)

  left_here : LineLeft (left_of m) a.size
  left_here = record { state = y.state; size = y.size; bytes = y.bytes; laid = y.laid }

  ends_control : is_control (take a.size m.text) ≡ true → Ends g m (left_of m) a (Ok (Control a.size a.begun))
  ends_control f = record { comes = λ whole ms h l s. at_control ms whole g m h a s y.trace f; lies = left_here; untraced = λ f. refl }

  module _ (plain : is_control (take a.size m.text) ≡ false) where
    ends_done : OpenBelow m.flags a.due 0 → Ends g m (left_of m) a (Ok (Done a.size a.occurred a.begun))
    ends_done o = record { comes = λ whole ms h l s. at_done ms whole g m h a s plain (omega (arith, y.due, l)) y.trace o; lies = left_here; untraced = λ f. refl }

    ends_refused : (k : ℕ) → OpenBelow m.flags a.due (suc k) → g.budget ≤ a.begun → Ends g m (left_of m) a (Err (record { why = BudgetUsedUp; begun = a.begun }))
    ends_refused k o q =
        record {
          comes = λ whole ms h l s. at_used ms whole g m h a s plain (omega (arith, y.due, l)) k o (slot_at g.table ms h k (omega (arith, o.below, y.due, l))) q;
          lies = tt;
          untraced = λ f. refl;
        }

  -- what is due: the end
  over : (e : Ended) → OverBy (take a.size m.text) m.flags a e → Ends g m (left_of m) a (Ok e)
  over (Control n p) d = rw d.1 (ends_control d.0)
  over (Done n o p) d = rw d.2 (ends_done d.0 d.1)

  pub ends_over : {z : Due} → Dues (take a.size m.text) m.flags g.budget a (Ok z) → {e : Ended} → z ≡ Ending e → Ends g m (left_of m) a (Ok e)
  ends_over {z} x {e} q = over e (let d : DueBy (take a.size m.text) m.flags g.budget a (Ok (Ending e)) = rw q at x.by in d)

  -- the budget is used up
  pub ends_used : {e : PassesError} → Dues (take a.size m.text) m.flags g.budget a (Err e) → Ends g m (left_of m) a (Err e)
  ends_used x = let d = x.by in rw d.3 (ends_refused d.0 d.1.0 d.1.1 d.2)

  -- or a pass
  module _ {k : ℕ} (d : PassDue g m a k) where
    plain : is_control (take a.size m.text) ≡ false
    plain = d.0

    opened : OpenBelow m.flags a.due (suc k)
    opened = d.1

    room : a.begun < g.budget
    room = d.2

    in_use : k < g.count
    in_use = omega (arith, opened.below, y.due)

    few : g.count ≤ most_macros
    few = count_few

    pub in_table : 1024 * k + 1024 ≤ length g.table
    in_table = omega (arith, in_use, few, table_size g.table y.table.macros y.table.is_table)

    pub start_fits : FitsIn w64 (1024 * k)
    start_fits = omega (arith, in_use, few)

    pub end_fits : FitsIn w64 (1024 * k + 1024)
    end_fits = omega (arith, in_use, few)

    pub begun_fits : FitsIn w64 g.budget → FitsIn w64 (a.begun + 1)
    begun_fits h = omega (arith, room, h)

    flag_there : k < length m.flags
    flag_there = omega (arith, in_use, few, y.flags)

    -- where the line stands after a pass without an occurrence
    abbrev further : Stand
    further = record { size = a.size; occurred = a.occurred; due = k; begun = a.begun + 1; written = a.written }

    -- what the pass changes
    abbrev came : Tried
    came = record { state = m.state; new = m.new; flags = m.flags }

    slot_of : (ms : Table) → IsTable g.table ms → length ms ≡ g.count → SlotAt g.table ms k
    slot_of ms h l = slot_at g.table ms h k (omega (arith, in_use, l))

    is_slot_lem : (ms : Table) (h : IsTable g.table ms) (l : length ms ≡ g.count) → IsSlot (slot_part g.table k) (slot_of ms h l).macro
    is_slot_lem ms h l = record { spellable = (slot_of ms h l).spellable; form = (slot_of ms h l).bytes ∙ sym (part_slot g.table k) }

    pub pass_lent : PassLent (slot_part g.table k) g.kinds m.present (take a.size m.text) m.state m.new m.flags k
    pass_lent = record {
      few = omega (arith, in_use, few);
      flags = y.flags;
      begins = y.begins;
      pass =
          record {
            macro = ((slot_of y.table.macros y.table.is_table y.table.counted).macro, is_slot_lem y.table.macros y.table.is_table y.table.counted);
            table = y.kinds;
            flags = y.present;
            bytes = y.bytes;
            short = omega (arith, length-take-le a.size m.text (omega (arith, y.size, y.text)), y.size);
            state = y.state;
            room = y.new;
          };
    }

    module _ {b' nw' fl' : List ℕ} {r : Result Passed WorkError} (p : PassRuns (slot_part g.table k) (take a.size m.text) came (record { state = b'; new = nw'; flags = fl' }) k r) where
      -- what is lent behind the pass
      abbrev lent_texts : Texts
      lent_texts = record { text = m.text; present = m.present; flags = fl'; trace = m.trace }

      flags_kept : length fl' ≡ length m.flags
      flags_kept = ap length p.flags ∙ begun_size m.flags k

      begun_then : (begun : List ℕ) × Begun fl' begun
      begun_then = (k ∷ y.begins.0, subst (λ (l : List ℕ). Begun l (k ∷ y.begins.0)) (sym p.flags) (begun_more m.flags k flag_there y.begins.0 y.begins.1))

      step_refused : {e : WorkError} → r ≡ Err e → Steps g m (record { state = b'; text = m.text; new = nw'; present = m.present; flags = fl'; trace = m.trace }) a (Err (record { why = AtWork e.fault; begun = a.begun + 1 }))
      step_refused {e} j =
          let p₂ = done_as p (Err e) j in
          record {
            goes = record {
              comes = λ whole ms h l s.
                  let u = (p₂.comes (slot_of ms h l).macro (is_slot_lem ms h l) s.begun s.begins s.state s.holds).moment in
                  pass_refused ms whole g m h a s plain (omega (arith, y.due, l)) k opened (slot_of ms h l) room u.0 _ u.1;
              lies = tt;
              untraced = λ f. refl;
            };
          }

      module _ {q : Passed} (i : r ≡ Ok q) where
        passed : PassRuns (slot_part g.table k) (take a.size m.text) came (record { state = b'; new = nw'; flags = fl' }) k (Ok q)
        passed = done_as p (Ok q) i

        size_within : q.size ≤ most_line_bytes
        size_within = passed.within

        module _ (w : length nw' ≡ length m.new) where
          here : PassComes (record { state = b'; new = nw'; flags = fl' }) (Ok q)
              (pass_of y.begins.0 (record { number = k; macro = (slot_of y.table.macros y.table.is_table y.table.counted).macro }) (take a.size m.text) y.state.0)
          here =
              passed.comes (slot_of y.table.macros y.table.is_table y.table.counted).macro (is_slot_lem y.table.macros y.table.is_table y.table.counted)
              y.begins.0 y.begins.1 y.state.0 y.state.1

          after : IsState b'
          after = (here.moment.0.state, here.moment.2.state)

          step_none : q.occurred ≡ false → Steps g m (record { state = b'; text = m.text; new = nw'; present = m.present; flags = fl'; trace = m.trace }) a (Ok (record { size = a.size; occurred = a.occurred; due = k; begun = a.begun + 1; written = a.written }))
          step_none j =
              record {
                goes = (
                  record {
                    table = y.table;
                    kinds = y.kinds;
                    state = after;
                    bytes = y.bytes;
                    text = y.text;
                    laid = y.laid;
                    new = w ∙ y.new;
                    present = y.present;
                    flags = flags_kept ∙ y.flags;
                    begins = begun_then;
                    size = y.size;
                    due = omega (arith, in_use);
                    begun = omega (arith, room);
                    trace = y.trace;
                  },
                  refl,
                  λ whole ms h l s.
                      let u = passed.comes (slot_of ms h l).macro (is_slot_lem ms h l) s.begun s.begins s.state s.holds in
                      pass_none ms whole g m h a s plain (omega (arith, y.due, l)) k opened (slot_of ms h l) room u.moment.0 u.moment.1 _ u.moment.2.state (sym u.says ∙ j) refl flag_there p.flags refl,
                  λ f. refl,
                );
              }

          -- behind a pass with an occurrence
          module _ (j : q.occurred ≡ true) {after-it : Texts} {next : Result Stand PassesError} where
            -- whose lines do not fit
            step_cut : Cut lent_texts after-it nw' g.traced q.size further next → (m' : Memories) → Steps g m m' a next
            step_cut over m' =
                rw over.next
                (record {
                  goes = record {
                    comes = λ whole ms h l s.
                        let u = passed.comes (slot_of ms h l).macro (is_slot_lem ms h l) s.begun s.begins s.state s.holds in
                        pass_cut ms whole g m h a s plain (omega (arith, y.due, l)) k opened (slot_of ms h l) room u.moment.0 u.moment.1 (sym u.says ∙ j) (take q.size nw') (u.moment.2.line j)
                        over.asked over.full (y.trace over.asked).inside;
                    lies = tt;
                    untraced = λ f. absurd (false≢true (sym f ∙ over.asked));
                  };
                })

            module _ (goes-on-so : Again g.table g.count lent_texts after-it nw' g.traced q.size further next) (same : length after-it.text ≡ length m.text) (v : length after-it.flags ≡ length fl') where
              front : take q.size after-it.text ≡ take q.size nw'
              front = padded_front (take q.size nw') (length m.text) q.size (length-take-le q.size nw' (omega (arith, size_within, w, y.new))) goes-on-so.line

              begun_closing : (begun : List ℕ) × Begun after-it.flags begun
              unfolding begun_then
              begun_closing =
                  (begun_then.0, subst (λ (l : List ℕ). Begun l begun_then.0) (sym goes-on-so.closed) (begun_closed fl' k (omega (arith, flags_kept, flag_there)) y.begins.0 _ begun_then.1))

              -- the trace's memory then
              opens : g.traced ≡ true → Open after-it.trace goes-on-so.written
              opens asked =
                  let o = y.trace asked in
                  let t = goes-on-so.traces asked in
                  let p = length-take-le a.written m.trace (omega (arith, o.inside, o.size)) in
                  let e : length (take a.written m.trace ++ lines_here lent_texts nw' q.size further) ≡ goes-on-so.written = length-append (take a.written m.trace) _ ∙ omega (arith, p, t.0) in
                  record {
                    size = padded_size (take a.written m.trace ++ lines_here lent_texts nw' q.size further) most_trace_bytes (omega (arith, e, t.1)) t.2;
                    inside = t.1;
                    zeros = t.2 ∙ ap (λ (i : List ℕ). padded i most_trace_bytes) (sym (padded_front (take a.written m.trace ++ lines_here lent_texts nw' q.size further) most_trace_bytes goes-on-so.written e t.2));
                  }

              step_some : Steps g m (record { state = b'; text = after-it.text; new = nw'; present = after-it.present; flags = after-it.flags; trace = after-it.trace }) a next
              step_some =
                  rw goes-on-so.next
                  (record {
                    goes = (
                      record {
                        table = y.table;
                        kinds = y.kinds;
                        state = after;
                        bytes = subst Bytes (here.moment.2.line j ∙ sym front)
                            (new_bytes y.begins.0 _ (take a.size m.text) y.state.0 here.moment.0 here.moment.1
                            (slot_of y.table.macros y.table.is_table y.table.counted).spellable.0 y.bytes y.state.1.in_range);
                        text = same ∙ y.text;
                        laid = goes-on-so.line ∙ (ap (padded (take q.size nw')) y.text ∙ ap (λ (i : List ℕ). padded i most_line_bytes) (sym front));
                        new = w ∙ y.new;
                        present = goes-on-so.present ∙ ap flags_of (sym front);
                        flags = v ∙ flags_kept ∙ y.flags;
                        begins = begun_closing;
                        size = size_within;
                        due = omega arith;
                        begun = omega (arith, room);
                        trace = opens;
                      },
                      refl,
                      λ whole ms h l s.
                          let u = passed.comes (slot_of ms h l).macro (is_slot_lem ms h l) s.begun s.begins s.state s.holds in
                          pass_some ms whole g m h a s plain (omega (arith, y.due, l)) k opened (slot_of ms h l) room u.moment.0 u.moment.1 _ u.moment.2.state (sym u.says ∙ j) q.size g.count goes-on-so.written
                          (take q.size nw') (u.moment.2.line j) (sym front) flag_there (goes-on-so.closed ∙ ap (λ (l : List ℕ). closed_flags l (get_or g.table (slot_bytes * k) 0) k) p.flags)
                          (omega (arith, begun_size m.flags k, flag_there)) l y.trace goes-on-so.traces,
                      λ f. (goes-on-so.untraced f).0,
                    );
                  })

    module _ {b' nw' fl' : List ℕ} where
      pub to_follow : {r : Result Passed WorkError} → PassRuns (slot_part g.table k) (take a.size m.text) came (record { state = b'; new = nw'; flags = fl' }) k r → length nw' ≡ length m.new
          → Followed g.table (record { text = m.text; present = m.present; flags = fl'; trace = m.trace }) nw' g.traced (size_of r) further
      to_follow p w =
          record {
            text = y.text;
            new = w ∙ y.new;
            present = ap length y.present ∙ flags_size _;
            within = p.within;
            size = y.size;
            slot = omega (arith, in_table);
            flag = omega (arith, flags_kept p, flag_there);
            few = omega (arith, in_use, few);
            trace = y.trace;
          }

      pub step_passed : (r : Result Passed WorkError) → PassRuns (slot_part g.table k) (take a.size m.text) came (record { state = b'; new = nw'; flags = fl' }) k r → length nw' ≡ length m.new → {after-it : Texts} {e : Result Stand PassesError}
          → Follows g.table g.count (record { text = m.text; present = m.present; flags = fl'; trace = m.trace }) after-it nw' g.traced r further e → length after-it.text ≡ length m.text → length after-it.flags ≡ length fl'
          → Steps g m (record { state = b'; text = after-it.text; new = nw'; present = after-it.present; flags = after-it.flags; trace = after-it.trace }) a e
      step_passed (Err i) p w f u v = rw (f.by.next, f.by.same) (step_refused p refl)
      step_passed (Ok q) p w {after-it} {e} f u v = by q.occurred refl f.by
        where
          by : (b : Bool) → q.occurred ≡ b → FollowedWith g.table g.count (record { text = m.text; present = m.present; flags = fl'; trace = m.trace }) after-it nw' g.traced b q.size further e
              → Steps g m (record { state = b'; text = after-it.text; new = nw'; present = after-it.present; flags = after-it.flags; trace = after-it.trace }) a e
          by false j h = rw (h.next, h.same) (step_none p refl w j)
          by true j (inl h) = step_some p refl w j h u v
          by true j (inr h) = step_cut p refl w j h _

-- THE LOOP

-- a refusal that `?` hands on
pub handed_on : {T E : Type 0} {r : Result T E} {e : E} → IsErr r × IsErrAnd r (λ y. y ≡ e) → r ≡ Err e
handed_on {r} h =
    let x = err_from_is_err_and r h.1 in
    x.1 ∙ ap Err x.2

-- an end, from where the line began
pub ends_from : {g : Given} {m₀ m : Memories} {left : Left} {a₀ a : Stand} {r : Result Ended PassesError} → Ends g m left a r → Onward g m₀ m a₀ a → (g.traced ≡ false → m.trace ≡ m₀.trace) → Ends g m₀ left a₀ r
ends_from k f u = record { comes = λ whole ms h l s. k.comes whole ms h l (f whole ms h l s); lies = k.lies; untraced = λ n. k.untraced n ∙ u n }

-- Every byte: what has been read is paid for, and stays well formed; so are the macros of a file.
use mathlib.Core.Path.{ap, refl, ◌∙◌, ◌≡◌}
use mathlib.Core.Bool.{◌&&◌, Bool, false, not, true}
use mathlib.Core.List.{◌++◌, List, [], reverse, reverse-append, reverse-reverse, reverse_aux, ◌∷◌}
use mathlib.Core.Option.{Option, none, some}
use Prim.Native.Nat.{◌+◌, ◌<◌, suc, ℕ, ◌≤◌}
use native.Mathlib.Nat.{add-zero, zero-add}
use native.Mathlib.Omega.{arith}
use lib.ListN.{length, length-reverse}
use lib.Dec.{eqb, ltb}
use borrow.Author.Tests.{eqb-false, le-ltb, ltb-true}
use Rattle.macros.specs.Bounds.{most_file_bytes, most_macro_bytes, most_macros}
use Rattle.macros.specs.Refusals.{FileRefusal}
use Rattle.macros.specs.Refusals.FileRefusal.{file_too_long, zero_byte}
use Rattle.macros.specs.Macro.{Macro, Mark, Table, among, ascii_lower, pick}
use Rattle.macros.specs.Macro.PatternUnit.{call_of, literal}
use Rattle.macros.specs.Macro.Action.{text}
use Rattle.macros.specs.Formed.{Byte, Bytes, Formed, FormedCommands, Octets}
use Rattle.macros.specs.Read.{Joinable, Next, Part, Pending, Prior, Read, Reader, Step, at_end, call_byte, count, escaped, first_call, first_zero, further, macro_of, outside, outside_fresh, part_byte, quote_byte, read_from, read_onto, site_of, skips, step, symbol_byte, tag_byte, taken}
use Rattle.macros.specs.Read.{part_byte_by, read_from_by, read_onto_by, step_by}
use Rattle.macros.specs.ReadSoFar.Joinable.{nothing, unit}
use Rattle.macros.specs.ReadSoFar.Part.{await_quote, await_symbol, call_text, call_text_escape, calling, calls, commands, members, members_escape, opened, pattern, pattern_call, pattern_called, pattern_escape, replacement, replacement_escape, tag_number}
use Rattle.macros.specs.ReadSoFar.Step.{done, on, opens, stop}
use Rattle.macros.specs.ReadFile.Pending.{at_mark, clear}
use Rattle.macros.specs.ReadFile.Reader.{between, inside}
use Rattle.macros.specs.ReadFile.Next.{go, refuse, refuse_before}
use Rattle.macros.specs.ReadFile.Read.{refused_at, table}
use Rattle.macros.specs.Spell.{behind, leaves_unit, shortest, spell_unit}
use Rattle.macros.specs.Accepted.{Each}
use Rattle.macros.specs.Spell.{call_text_signs}
use Rattle.macros.proofs.Readings.{settled, with_mark}
use Rattle.macros.proofs.Round.{no_zero, read_go, read_refuse, read_refuse_before}
use Rattle.macros.proofs.Costs.{Done, Fit, FitPhase, FitPlace, Good, Shows, base, byte_most, cost, cost_once, cost_actions, cost_calls, cost_text, either, figures}
use Rattle.macros.proofs.Costs.{gap, gap_mark, load, load_call, slack, slack_mark, top, top_mark}
use Rattle.macros.proofs.Costs.Good.{fault, fine, opening, whole}
use Rattle.macros.proofs.PaidPattern.{escaped_byte, escaped_load, literal_length_lem, members_good, new_good, new_most, opened_good, pattern_good}
use Rattle.macros.proofs.PaidCalls.{call_good, call_text_good, calls_good, commands_good, cost_text_lem, escaped_text_load, figures_more, low_name, macro_cost, macro_formed, otherwise_good, replacement_good, tag_good, turned_good}

call_of_length : (m : Mark) (i : ℕ) (h : Joinable) → length (spell_unit h (call_of m i)) ≡ 4
unfolding spell_unit
call_of_length m i h = refl

gap_none : gap_mark (top_mark []) ≡ 0
unfolding gap_mark top_mark
gap_none = refl

-- every byte
keeps : (st : Part) (n b : ℕ) → Byte b → (skips st && eqb b 47) ≡ false → load st ≤ n → Fit st → Good n (part_byte st b)
unfolding part_byte_by skips symbol_byte quote_byte tag_byte load Fit ascii_lower slack settled leaves_unit gap with_mark slack_mark Done cost_actions cost_text figures
keeps (calls a cs) n b g s l f = calls_good n b a cs l f
keeps (pattern h ps) n b g s l f = pattern_good n b g h ps s l f
keeps (pattern_escape ps) n b g s l f =
    let c = escaped b in
    fine {st = pattern (unit (literal c)) ps} (omega (arith, escaped_load c ps, cost_once (literal c) ps, literal_length_lem (top ps) c)) (escaped_byte b g, f)
keeps (opened ps) n b g s l f = opened_good n ps b f g l
keeps (members ps neg k ms) n b g s l f = members_good n ps f.0 neg k ms b g l f.1
keeps (members_escape ps neg k ms) n b g s l f =
    new_good n ps f.0 neg k ms (escaped b) (escaped_byte b g) (omega (arith, new_most neg k ms (escaped b))) f.1
keeps (pattern_call m ps) n b g s l f = either (λ e. fine (omega arith) (f, low_name b e)) (λ e. otherwise_good n (pattern_call m ps) b l f)
keeps (pattern_called m ps i) n b g s l f =
    either (λ e. fine (omega (arith, cost_once (call_of m i) ps, call_of_length m i (top ps))) (f.1, f.0)) (λ e. otherwise_good n (pattern_called m ps i) b l f)
keeps (await_symbol ps) n b g s l f =
    either (λ e. fine (omega arith) f)
    (λ e. either (λ k. fine (omega arith) f) (λ k. either (λ j. fault tt) (λ j. fine (omega arith) f)))
keeps (await_quote fr) n b g s l f =
    either (λ e. fine (omega (arith, gap_none)) (f, tt)) (λ e. either (λ k. fault tt) (λ k. fine (omega arith) f))
keeps (replacement a fr ps) n b g s l f = replacement_good n b g fr a ps s l f
keeps (replacement_escape fr ps) n b g s l f =
    let c = escaped b in
    fine {st = replacement none fr (text c ∷ ps)} (omega (arith, escaped_text_load c ps, cost_text_lem ps c)) (f.0, (escaped_byte b g, f.1))
keeps (tag_number o fr ps) n b g s l f =
    either (λ e. fine (omega (arith, figures_more o b e)) f)
    (λ e. either (λ k. tag_good n o fr ps l f) (λ k. either (λ j. fault tt) (λ j. fault tt)))
keeps (calling pl ph) n b g s l f =
    turned_good n pl ph b (call_byte (site_of pl) ph b) (call_good (site_of pl) ph b (load_call ph) (omega arith) f.1) l f.0 f.1
keeps (call_text pl i j t) n b g s l f = call_text_good n b g pl i j t s l f
keeps (call_text_escape pl i j t) n b g s l f =
    let c = escaped b in
    fine {st = call_text pl i j (c ∷ t)} (omega (arith, byte_most (among call_text_signs c) c)) (f.0, f.1, (escaped_byte b g, f.2), omega (arith, f.3))
keeps (commands a fr ps cs) n b g s l f = commands_good n b a fr ps cs l f.0 f.1

-- A FILE

-- a macro that is well formed and has a short spelling, of at most q bytes
pub record SpelledIn (q : ℕ) (m : Macro) : Type 0 where
  pub formed : Formed m
  pub short : length (shortest m) ≤ most_macro_bytes
  pub least : length (shortest m) ≤ q

-- the macros so far, newest first: those that q bytes were read as, and behind them those that were there before
record Onto (old : List Macro) (q : ℕ) (ms : List Macro) : Type 0 where
  new : List Macro
  added : ms ≡ new ++ old
  each : Each (SpelledIn q) new

each_more : (q : ℕ) (ms : List Macro) → Each (SpelledIn q) ms → Each (SpelledIn (suc q)) ms
each_more q [] e = tt
each_more q (m ∷ ms) e = (record { formed = e.0.formed; short = e.0.short; least = omega (arith, e.0.least) }, each_more q ms e.1)

each_onto : (q : ℕ) (ms l : List Macro) → Each (SpelledIn q) ms → Each (SpelledIn q) l → Each (SpelledIn q) (reverse_aux ms l)
each_onto q [] l e f = f
each_onto q (m ∷ ms) l e f = each_onto q ms (m ∷ l) e.1 (e.0, f)

module _ (old : List Macro) where
  -- one more byte
  later : (q : ℕ) (ms : List Macro) → Onto old q ms → Onto old (suc q) ms
  later q ms o = record { new = o.new; added = o.added; each = each_more q o.new o.each }

  -- one more macro
  longer : (q : ℕ) (m : Macro) (ms : List Macro) → SpelledIn q m → Onto old q ms → Onto old q (m ∷ ms)
  longer q m ms f o = record { new = m ∷ o.new; added = ap (λ (l : List Macro). m ∷ l) o.added; each = (f, o.each) }

-- at most 96 macros, if those before were no more
abbrev pub Few : List Macro → List Macro → Type 0
Few old ms = length old ≤ most_macros → length ms ≤ most_macros

-- a `&` or `#` that `(` may join is the n-th last of the p bytes read
abbrev Stood : ℕ → Pending → Type 0
Stood p clear = Unit {0}
Stood p (at_mark m n) = (1 ≤ n) × (n ≤ p)

-- the macro that n of p bytes were read as so far: its open part, and the calls before its pattern if that is open
record Open (p n : ℕ) (st : Part) (pr : Prior) : Type 0 where
  paid : load st + cost_calls pr.calls ≤ n
  fit : Fit st
  called : FormedCommands 0 pr.calls
  since : n ≤ p

-- what holds of the reader behind p bytes
Sound : List Macro → ℕ → Reader → Type 0
Sound old p (between skip a ms) = Onto old p ms × Few old ms × Stood p a
Sound old p (inside skip n st pr) = Open p n st pr × Onto old p pr.macros × (length pr.macros < most_macros)

data Sure (old : List Macro) (p : ℕ) : Next → Type 0 where
  ahead : {r : Reader} → Sound old p r → Sure old p (go r)
  back : {k : FileRefusal} → Shows k → Sure old p (refuse k)
  far_back : {k : FileRefusal} {n : ℕ} → Shows k → Sure old p (refuse_before k n)

which : {old : List Macro} {p : ℕ} {c : Bool} {x y : Next} → (c ≡ true → Sure old p x) → (c ≡ false → Sure old p y) → Sure old p (pick c x y)
unfolding pick
which {c = true} f g = f refl
which {c = false} f g = g refl

module _ (old : List Macro) (p : ℕ) where
  -- one more byte of a macro, if it is not the 513th
  counted : (n : ℕ) (r : Reader) → (n < most_macro_bytes → Sound old (suc p) r) → Sure old (suc p) (count n r)
  unfolding count
  counted n r h = which (λ t. ahead (h (ltb-true n 512 t))) (λ t. back tt)

  -- a macro's byte in a skip, or at its ends
  skipped : (skip : Bool) (n : ℕ) (st : Part) (pr : Prior) → Sound old p (inside skip n st pr) → (other : Bool) → Sure old (suc p) (count n (inside other (suc n) st pr))
  unfolding Sound
  skipped skip n st pr s other =
      let o = s.0 in
      counted n (inside other (suc n) st pr)
      (λ t. (
        record { paid = omega (arith, o.paid); fit = o.fit; called = o.called; since = omega (arith, o.since) },
        later old p pr.macros s.1,
        s.2,
      ))

  -- a macro's byte outside skips: k of the n bytes so far are not those of the calls before its pattern
  taken_sure : (n k : ℕ) (pr : Prior) (x : Step) → Good k x → k + cost_calls pr.calls ≤ n → FormedCommands 0 pr.calls → n ≤ p
      → Onto old p pr.macros → length pr.macros < most_macros → Sure old (suc p) (taken n pr x)
  unfolding taken Sound load Fit settled slack cost top gap
  taken_sure n k pr (on st) (fine l f) h c i e z =
      counted n (inside false (suc n) st pr)
      (λ t. (record { paid = omega arith; fit = f; called = c; since = omega arith }, later old p pr.macros e, z))
  taken_sure n k pr (opens cs) (opening l f) h c i e z =
      counted n (inside false (suc n) (pattern nothing []) (record { calls = cs; macros = pr.macros }))
      (λ t. (record { paid = omega arith; fit = tt; called = f; since = omega arith }, later old p pr.macros e, z))
  taken_sure n k pr (done f ps cs) (whole l d b) h c i e z =
      let m = macro_of pr.calls f ps cs in
      let j = macro_cost pr.calls f ps cs in
      counted n (between false clear (m ∷ pr.macros))
      (λ t. (
        longer old (suc p) m pr.macros (record { formed = macro_formed pr.calls f ps cs c d b; short = omega arith; least = omega arith })
            (later old p pr.macros e),
        λ i. omega arith,
        tt,
      ))
  taken_sure n k pr (stop j) (fault w) h c i e z = back w

  -- BEFORE A PATTERN

  module _ (ms : List Macro) (o : Onto old p ms) (h : Few old ms) where
    fresh_sure : (b : ℕ) → Sure old (suc p) (outside_fresh ms b)
    unfolding outside_fresh Sound load Fit settled slack cost top gap cost_calls
    fresh_sure b =
        let e = later old p ms o in
        which
        (λ q. which
        (λ t. ahead (record { paid = omega arith; fit = tt; called = tt; since = omega arith }, e, ltb-true (length ms) 96 t))
        (λ t. back tt))
        (λ q. which (λ t. ahead (e, h, (omega arith, omega arith)))
        (λ q. which (λ t. ahead (e, h, (omega arith, omega arith))) (λ t. ahead (e, h, tt))))

    -- the `(` of a first call: it and its `&` or `#` are two bytes
    first_sure : (m : Mark) (n : ℕ) → Stood p (at_mark m n) → Sure old (suc p) (first_call m n ms)
    unfolding first_call Sound load Fit base load_call FitPlace FitPhase cost_calls
    first_sure m n s =
        which
        (λ t. which
        (λ q. ahead (
          record { paid = omega (arith, s.0); fit = (tt, tt); called = tt; since = omega (arith, s.1) },
          later old p ms o,
          ltb-true (length ms) 96 t,
        ))
        (λ q. far_back tt))
        (λ t. far_back tt)

    outside_sure : (a : Pending) (b : ℕ) → Stood p a → Sure old (suc p) (outside a ms b)
    unfolding outside
    outside_sure clear b s = fresh_sure b
    outside_sure (at_mark m n) b s = which (λ e. first_sure m n s) (λ e. fresh_sure b)

further_stood : (p : ℕ) (a : Pending) → Stood p a → Stood (suc p) (further a)
unfolding further
further_stood p clear s = tt
further_stood p (at_mark m n) s = (omega arith, omega (arith, s.1))

step_sure : (old : List Macro) (r : Reader) (p b : ℕ) → Byte b → Sound old p r → Sure old (suc p) (step r b)
unfolding step_by Sound
step_sure old (between skip a ms) p b g s =
    let stays : Onto old (suc p) ms × Few old ms × Stood (suc p) (further a) = (later old p ms s.0, s.1, further_stood p a s.2) in
    which (λ e. ahead stays) (λ e. which (λ k. ahead stays) (λ k. outside_sure old p ms s.0 s.1 a b s.2))
step_sure old (inside skip n st pr) p b g s =
    let o = s.0 in
    which (λ e. skipped old p skip n st pr s (not skip))
    (λ e. which (λ k. skipped old p skip n st pr s true)
    (λ k. taken_sure old p n (load st) pr (part_byte st b) (keeps st (load st) b g e (omega arith) o.fit) o.paid o.called o.since s.1 s.2))

-- what holds of a table that was read onto another from q bytes, both oldest first
pub record Produced (older : Table) (q : ℕ) (ms : Table) : Type 0 where
  pub new : Table
  pub behind : ms ≡ older ++ new
  pub each : Each (SpelledIn q) new
  pub count : Few older ms

-- what holds of what was read
data Right (older : Table) (q : ℕ) : Read → Type 0 where
  macros : {ms : Table} → Produced older q ms → Right older q (table ms)
  refusal : {n : FileRefusal} {p : ℕ} → Shows n → Right older q (refused_at n p)

finished : (old : List Macro) (q : ℕ) (ms : List Macro) → Onto old q ms → Few old ms → Produced (reverse old) q (reverse ms)
finished old q ms o h =
    record {
      new = reverse o.new;
      behind = ap reverse o.added ∙ reverse-append o.new old;
      each = each_onto q o.new [] o.each tt;
      count = λ l. rw (length-reverse ms) (h (rw (length-reverse old) at l));
    }

read_right : (old : List Macro) (s : List ℕ) (p q : ℕ) (r : Reader) → Bytes s → Sound old q r → Right (reverse old) (q + length s) (read_from p r s)
unfolding read_from_by Sound at_end
read_right old [] p q (between true a ms) g h = unfold pick in refusal tt
read_right old [] p q (between false a ms) g h = unfold pick in macros {ms = reverse ms} (rw add-zero (finished old q ms h.0 h.1))
read_right old [] p q (inside skip n st pr) g h = refusal tt
read_right old (b ∷ s) p q r g h = by (step r b) refl (step_sure old r q b g.0 h) (λ r' i. read_right old s (suc p) (suc q) r' g.1 i)
  where
    by : (v : Next) → step r b ≡ v → Sure old (suc q) v → ((r' : Reader) → Sound old (suc q) r' → Right (reverse old) (suc q + length s) (read_from (suc p) r' s))
        → Right (reverse old) (q + length (b ∷ s)) (read_from p r (b ∷ s))
    by (go r') e (ahead i) ih =
        let k : q + suc (length s) ≡ suc q + length s = omega arith in
        rw (k, read_go p r r' b s e) (ih r' i)
    by (refuse k) e (back w) ih = rw (read_refuse p k r b s e) (refusal w)
    by (refuse_before k n) e (far_back w) ih = rw (read_refuse_before p k n r b s e) (refusal w)

no_zeros : (p : ℕ) (s : List ℕ) → Octets s → first_zero p s ≡ none → Bytes s
unfolding first_zero
no_zeros p [] g e = tt
no_zeros p (b ∷ s) g e = by (eqb b 0) refl e (λ f. no_zeros (suc p) s g.1 f)
  where
    by : (x : Bool) → eqb b 0 ≡ x → pick x (some p) (first_zero (suc p) s) ≡ none → (first_zero (suc p) s ≡ none → Bytes s) → Byte b × Bytes s
    by true q f ih = unfold pick in let z : ◌≡◌ {A = ℕ} 0 1 = cc in absurd (omega arith)
    by false q f ih = unfold pick in (omega (arith, eqb-false b 0 q, g.0), ih f)

-- bytes read onto a table, whatever its macros
read_onto_lem : (older : Table) (s : List ℕ) → Bytes s → Right older (length s) (read_from 0 (between false clear (reverse older)) s)
unfolding Sound
read_onto_lem older s g =
    let o : Onto (reverse older) 0 (reverse older) = record { new = []; added = refl; each = tt } in
    rw (reverse-reverse older, zero-add (length s)) at (read_right (reverse older) s 0 0 (between false clear (reverse older)) g (o, (λ l. l), tt))

right_table : (older : Table) (q : ℕ) (r : Read) (ms : Table) → Right older q r → r ≡ table ms → Produced older q ms
right_table older q (table l) ms (macros e) t = let z : l ≡ ms = cc in rw (← z) e
right_table older q (refused_at n p) ms (refusal w) t = let z : ◌≡◌ {A = ℕ} 0 1 = cc in absurd (omega arith)

pub produced : (older : Table) (s : List ℕ) (ms : Table) → Octets s → read_onto older s ≡ table ms → Produced older (length s) ms
unfolding read_onto_by
produced older s ms g e = by (ltb most_file_bytes (length s)) (first_zero 0 s) refl e
  where
    by : (x : Bool) (o : Option ℕ) → first_zero 0 s ≡ o
        → pick x (refused_at file_too_long most_file_bytes) (elim o [ none ↦ read_from 0 (between false clear (reverse older)) s | some p ↦ refused_at zero_byte p ]) ≡ table ms
        → Produced older (length s) ms
    by true o f e = unfold pick in let z : ◌≡◌ {A = ℕ} 0 1 = cc in absurd (omega arith)
    by false (some p) f e = unfold pick in let z : ◌≡◌ {A = ℕ} 0 1 = cc in absurd (omega arith)
    by false none f e = unfold pick in right_table older (length s) _ ms (read_onto_lem older s (no_zeros 0 s g f)) e

right_refusal : (older : Table) (q : ℕ) (r : Read) (k : FileRefusal) (p : ℕ) → Right older q r → r ≡ refused_at k p → Shows k
right_refusal older q (table l) k p (macros e) t = let z : ◌≡◌ {A = ℕ} 0 1 = cc in absurd (omega arith)
right_refusal older q (refused_at n j) k p (refusal w) t = let z : n ≡ k = cc in rw (← z) w

-- bytes that are no more than a file may have, none of them 0, are not refused by 10 or 11
pub refusal_shows : (older : Table) (s : List ℕ) (k : FileRefusal) (p : ℕ) → Bytes s → length s ≤ most_file_bytes → read_onto older s ≡ refused_at k p → Shows k
unfolding read_onto_by pick
refusal_shows older s k p g h e = right_refusal older (length s) _ k p (read_onto_lem older s g) (simp (le-ltb 32768 (length s) h, no_zero 0 s g) at e)

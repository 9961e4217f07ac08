-- Where macros begin, between macros, and the first byte 0 of a file.
-- Assumes nothing.
use mathlib.Core.Path.{◌≡◌, refl, ap, sym, ◌∙◌}
use mathlib.Core.Bool.{Bool, true, false, not, ◌&&◌, ◌||◌, and-false, true≢false}
use mathlib.Core.List.{List, [], ◌∷◌}
use mathlib.Core.Option.{Option as OptionOf, none, some}
use Rattle.std.specs.Prelude.{Option, Some, None, Ok, Err, cond}
use Rattle.std.specs.List.{position, position_from}
use Rattle.std.proofs.lemmas.Iterator.Adapters.{position_from-zero}
use Prim.Native.Nat.{ℕ, suc, ◌+◌, ◌-◌, ◌≤◌, ◌<◌}
use native.Mathlib.Omega.{arith}
use native.Mathlib.Numerals.{add-one}
use lib.Dec.{eqb, ltb}
use lib.ListN.{length, get_or, drop, drop_of_length-le}
use lib.Seq.{drop-cons}
use borrow.Author.Tests.{eqb-true, ne_eqb, not-true, le-ltb, lt-ltb, ltb-true, ltb-false}
use Rattle.macros.specs.Refusals.FileRefusal.{macro_too_long, too_many_macros}
use Rattle.macros.specs.Macro.{Mark, Macro, pick}
use Rattle.macros.specs.Macro.Mark.{stack, counter}
use Rattle.macros.specs.Read.{Part, Pending, step, further, outside, outside_fresh, first_call, no_calls, first_zero, step_by}
use Rattle.macros.specs.ReadSoFar.Joinable.{nothing}
use Rattle.macros.specs.ReadSoFar.CallSite.{calls_so_far}
use Rattle.macros.specs.ReadSoFar.Phase.{begun}
use Rattle.macros.specs.ReadSoFar.Part.{pattern, calling}
use Rattle.macros.specs.ReadFile.Pending.{clear, at_mark}
use Rattle.macros.specs.ReadFile.Reader.{between, inside}
use Rattle.macros.specs.ReadFile.Next.{go, refuse}
use Rattle.form_table.proofs.Basics.{and_left, and_right}
use Rattle.read_call.specs.Call.{mark_of}
use Rattle.read_start.specs.Next.{ends_at, next_by, next_from}
use Rattle.read_start.specs.Start.{first_part, started, comes, started_behind, over, opens, is_mark, opens_call, turned, pending_of, Seeks}
use Rattle.read_scan.specs.declared.FileFault.TheVariants.{Incomplete}
use Rattle.read_scan.proofs.Laws.{run_now}
use Rattle.read_start.proofs.Coming.{next_go, next_refuse, next_before, next_after}

-- WHERE A MACRO BEGINS

module _ (s : List ℕ) (a : ℕ) (ms : List Macro) where
  -- behind the byte that opens its first part
  begins_inside : (v n : ℕ) (st : Part) → n ≡ v - a → v - a ≤ 512 → first_part (get_or s a 0) ≡ st
      → next_by v (inside false n st (no_calls ms)) (drop v s) ≡ comes (started s a v (no_calls ms))
  unfolding started pick
  begins_inside v n st i h e =
      next_after (no_calls ms) v false n st (drop v s)
      ∙ ap comes (sym (rw (le-ltb _ _ h, e, i) (run_now s a (no_calls ms) false v st h)))

  -- its first quote
  quote_begins : (w : Pending) → a < length s → get_or s a 0 ≡ 39
      → step (between false w ms) 39 ≡ pick (ltb (length ms) 96) (go (inside false 1 (pattern nothing []) (no_calls ms))) (refuse too_many_macros)
      → next_by a (between false w ms) (drop a s) ≡ started_behind s a (a + 1) ms
  unfolding started_behind pick first_part
  quote_begins w h e f = rw (drop-cons s a 0 h, e) (by (ltb (length ms) 96) refl)
    where
      by : (y : Bool) → ltb (length ms) 96 ≡ y → next_by a (between false w ms) (39 ∷ drop (suc a) s) ≡ started_behind s a (a + 1) ms
      by true i =
          let k = begins_inside (suc a) 1 (pattern nothing []) (omega arith) (omega arith) (rw e refl) in
          next_go a 39 _ false w ms _ (f ∙ rw i refl) ∙ (k ∙ rw (i, add-one) refl)
      by false i = next_refuse a 39 _ false w ms too_many_macros (f ∙ rw i refl) ∙ rw i refl

  -- the `(` of its first call, at a place behind its sign
  call_begins : (at : ℕ) (m : Mark) → a < at → at < length s → get_or s at 0 ≡ 40 → first_part (get_or s a 0) ≡ calling (calls_so_far []) (begun m)
      → next_by at (between false (at_mark m (at - a)) ms) (drop at s) ≡ started_behind s a (at + 1) ms
  unfolding started_behind started pick step_by outside first_call comes
  call_begins at m l h e f = rw (drop-cons s at 0 h, e) (by (ltb (length ms) 96) refl)
    where
      by_length : (y : Bool) → ltb (length ms) 96 ≡ true → ltb (at - a) 512 ≡ y → next_by at (between false (at_mark m (at - a)) ms) (40 ∷ drop (suc at) s) ≡ started_behind s a (at + 1) ms
      by_length true i j =
          let k = begins_inside (suc at) (suc (at - a)) (calling (calls_so_far []) (begun m)) (omega arith) (omega (arith, ltb-true (at - a) 512 j)) f in
          next_go at 40 _ false _ ms _ (rw (i, j) refl) ∙ (k ∙ rw (i, add-one) refl)
      by_length false i j =
          let z : at - (at - a - 512) ≡ a + 512 = omega (arith, ltb-false (at - a) 512 j) in
          let t : ltb 512 (at + 1 - a) ≡ true = lt-ltb 512 (at + 1 - a) (omega (arith, ltb-false (at - a) 512 j)) in
          next_before at 40 _ false _ ms macro_too_long (at - a - 512) (rw (i, j) refl) ∙ rw (z, i, t) refl

      by : (y : Bool) → ltb (length ms) 96 ≡ y → next_by at (between false (at_mark m (at - a)) ms) (40 ∷ drop (suc at) s) ≡ started_behind s a (at + 1) ms
      by true i = by_length (ltb (at - a) 512) i refl
      by false i =
          let z : at - (at - a) ≡ a = omega arith in
          next_before at 40 _ false _ ms too_many_macros (at - a) (rw i refl) ∙ rw (z, i) refl

-- BETWEEN MACROS

-- a byte of a skip
further_pick : (x y : Bool) (n : ℕ) → further (pick x (at_mark stack n) (pick y (at_mark counter n) clear)) ≡ pick x (at_mark stack (suc n)) (pick y (at_mark counter (suc n)) clear)
unfolding further pick
further_pick true y n = refl
further_pick false true n = refl
further_pick false false n = refl

-- a byte that joins no sign
outside_pick : (x y : Bool) (n : ℕ) (ms : List Macro) (b : ℕ) → ((x || y) && eqb b 40) ≡ false → outside (pick x (at_mark stack n) (pick y (at_mark counter n) clear)) ms b ≡ outside_fresh ms b
unfolding outside pick
outside_pick true y n ms b e = rw e refl
outside_pick false true n ms b e = rw e refl
outside_pick false false n ms b e = refl

fresh_pick : (x y : Bool) (ms : List Macro) → pick x (go (between false (at_mark stack 1) ms)) (pick y (go (between false (at_mark counter 1) ms)) (go (between false clear ms))) ≡ go (between false (pick x (at_mark stack 1) (pick y (at_mark counter 1) clear)) ms)
unfolding pick
fresh_pick true y ms = refl
fresh_pick false true ms = refl
fresh_pick false false ms = refl

-- a byte that is no quote
fresh_on : (ms : List Macro) (b : ℕ) → eqb b 39 ≡ false → outside_fresh ms b ≡ go (between false (pending_of b 1) ms)
unfolding outside_fresh pending_of pick
fresh_on ms b e = rw e (fresh_pick (eqb b 38) (eqb b 35) ms)

-- a quote begins one
opening : (l n : ℕ) (ms : List Macro) → step (between false (pending_of l n) ms) 39
    ≡ pick (ltb (length ms) 96) (go (inside false 1 (pattern nothing []) (no_calls ms))) (refuse too_many_macros)
unfolding step_by pending_of outside_fresh pick
opening l n ms = outside_pick (eqb l 38) (eqb l 35) n ms 39 (and-false (eqb l 38 || eqb l 35))

-- a byte in a skip
turn_in : (y : Bool) (w : Pending) (ms : List Macro) → pick y (go (between false w ms)) (go (between true w ms)) ≡ go (between (pick y false true) w ms)
unfolding pick
turn_in true w ms = refl
turn_in false w ms = refl

-- a byte outside of skips
turn_out : (y : Bool) (w v : Pending) (ms : List Macro) → pick y (go (between true w ms)) (go (between false v ms)) ≡ go (between (pick y true false) (pick y w v) ms)
unfolding pick
turn_out true w v ms = refl
turn_out false w v ms = refl

-- a byte that begins no macro, in a skip or not
turn_step : (k : Bool) (l n : ℕ) (ms : List Macro) (b : ℕ) → opens b k ≡ false → opens_call b k l ≡ false
    → step (between k (pending_of l n) ms) b ≡ go (between (turned b k) (pick (over b k) (pending_of l (suc n)) (pending_of b 1)) ms)
unfolding step_by pending_of pick
turn_step true l n ms b e f = rw (further_pick (eqb l 38) (eqb l 35) n) (turn_in (eqb b 47) _ ms)
turn_step false l n ms b e f =
    rw (further_pick (eqb l 38) (eqb l 35) n, outside_pick (eqb l 38) (eqb l 35) n ms b f, fresh_on ms b e) (turn_out (eqb b 47) _ _ ms)

-- the sign that is open, further on
pending_on : (o : Bool) (l b a at : ℕ) → a ≤ at → pick o (pending_of l (suc (at - a))) (pending_of b 1) ≡ pending_of (pick o l b) (at + 1 - pick o a at)
unfolding pick
pending_on true l b a at h = let e : at + 1 - a ≡ suc (at - a) = omega arith in rw e refl
pending_on false l b a at h = let e : at + 1 - at ≡ 1 = omega arith in rw e refl

-- a sign is one of the two
mark_two : (x y : Bool) (n : ℕ) → (x || y) ≡ true → (x ≡ true → y ≡ false) → pick x (at_mark stack n) (pick y (at_mark counter n) clear) ≡ at_mark (mark_of y) n
unfolding pick
mark_two true y n e f = rw (f refl) refl
mark_two false true n e f = refl
mark_two false false n e f = absurd (true≢false (sym e))

not_both : (l : ℕ) → eqb l 38 ≡ true → eqb l 35 ≡ false
not_both l e = rw (eqb-true l 38 e) refl

-- what the machine has at a sign
mark_pending : (l n : ℕ) → is_mark l ≡ true → pending_of l n ≡ at_mark (mark_of (eqb l 35)) n
unfolding pending_of
mark_pending l n e = mark_two (eqb l 38) (eqb l 35) n e (not_both l)

-- it is no quote
no_quote : (l : ℕ) → is_mark l ≡ true → l ≡ 39 → ⊥
no_quote l e f = absurd (true≢false (sym (rw f at e)))

-- what its `(` opens
mark_part : (l : ℕ) → is_mark l ≡ true → first_part l ≡ calling (calls_so_far []) (begun (mark_of (eqb l 35)))
unfolding first_part pick
mark_part l e = simp (ne_eqb _ _ (no_quote l e))

-- from p on there is no macro up to at, which is in a skip or not; l is the last byte that was not passed over, a its place
pub record Sought (s : List ℕ) (p at : ℕ) (k : Bool) (l a : ℕ) : Type 0 where
  pub begun : p ≤ a
  pub behind : a ≤ at
  pub there : at ≤ length s
  pub sign : is_mark l ≡ true → (a < at) × (get_or s a 0 ≡ l)
  pub onto : (ms : List Macro) → next_from s p ms ≡ next_by at (between k (pending_of l (at - a)) ms) (drop at s)

-- before the first byte
pub sought_none : (s : List ℕ) (p : ℕ) → p ≤ length s → Sought s p p false 32 p
unfolding pending_of pick next_from
sought_none s p h = record { begun = omega arith; behind = omega arith; there = h; sign = λ e. absurd (true≢false (sym e)); onto = λ ms. refl }

-- the sign and its place behind one byte more
sign_on : (s : List ℕ) (o : Bool) (l a at : ℕ) → a ≤ at → (is_mark l ≡ true → (a < at) × (get_or s a 0 ≡ l))
    → is_mark (pick o l (get_or s at 0)) ≡ true → (pick o a at < at + 1) × (get_or s (pick o a at) 0 ≡ pick o l (get_or s at 0))
unfolding pick
sign_on s true l a at h f e = (omega arith, (f e).1)
sign_on s false l a at h f e = (omega arith, refl)

-- the places keep their order
place_on : (o : Bool) (p a at : ℕ) → p ≤ a → a ≤ at → (p ≤ pick o a at) × (pick o a at ≤ at + 1)
unfolding pick
place_on true p a at h l = (h, omega arith)
place_on false p a at h l = (omega arith, omega arith)

module _ {s : List ℕ} {p at : ℕ} {k : Bool} {l a : ℕ} (g : Sought s p at k l a) (h : at < length s) where
  pub sought_on : opens (get_or s at 0) k ≡ false → opens_call (get_or s at 0) k l ≡ false → {o j : Bool} {l' a' : ℕ}
      → o ≡ over (get_or s at 0) k → j ≡ turned (get_or s at 0) k → l' ≡ pick o l (get_or s at 0) → a' ≡ pick o a at → Sought s p (at + 1) j l' a'
  sought_on e f {o} i x y z =
      let w = place_on o p a at g.begun g.behind in
      let c : (ms : List Macro) → next_by at (between k (pending_of l (at - a)) ms) (drop at s) ≡ next_by (at + 1) (between (turned (get_or s at 0) k) (pending_of (pick o l (get_or s at 0)) (at + 1 - pick o a at)) ms) (drop (at + 1) s) =
      λ ms. rw (drop-cons s at 0 h, ← pending_on o l (get_or s at 0) a at g.behind, i, add-one) (next_go at (get_or s at 0) (drop (suc at) s) k _ ms _ (turn_step k l (at - a) ms (get_or s at 0) e f)) in
      rw (x, y, z)
      (record {
        begun = w.0;
        behind = w.1;
        there = omega arith;
        sign = sign_on s o l a at g.behind g.sign;
        onto = λ ms. g.onto ms ∙ c ms;
      })

  pub seek_quote : opens (get_or s at 0) k ≡ true → Seeks s p (Ok (Some (at, at + 1)))
  seek_quote e = (omega (arith, g.begun, g.behind), omega arith, omega arith, λ ms. g.onto ms ∙ rw skip (quote_begins s at ms (pending_of l (at - a)) h byte (opening l (at - a) ms)))
    where
      skip : k ≡ false
      skip = not-true k (and_left (not k) (eqb (get_or s at 0) 39) e)

      byte : get_or s at 0 ≡ 39
      byte = eqb-true (get_or s at 0) 39 (and_right (not k) (eqb (get_or s at 0) 39) e)

  pub seek_call : opens_call (get_or s at 0) k l ≡ true → Seeks s p (Ok (Some (a, at + 1)))
  seek_call e = (g.begun, omega arith, omega arith, λ ms. g.onto ms ∙ rw (skip, pending) (call_begins s a ms at (mark_of (eqb l 35)) its.0 h byte part))
    where
      skip : k ≡ false
      skip = not-true k (and_left (not k) (is_mark l && eqb (get_or s at 0) 40) e)

      both : (is_mark l && eqb (get_or s at 0) 40) ≡ true
      both = and_right (not k) (is_mark l && eqb (get_or s at 0) 40) e

      mark : is_mark l ≡ true
      mark = and_left (is_mark l) (eqb (get_or s at 0) 40) both

      byte : get_or s at 0 ≡ 40
      byte = eqb-true (get_or s at 0) 40 (and_right (is_mark l) (eqb (get_or s at 0) 40) both)

      its : (a < at) × (get_or s a 0 ≡ l)
      its = g.sign mark

      pending : pending_of l (at - a) ≡ at_mark (mark_of (eqb l 35)) (at - a)
      pending = mark_pending l (at - a) mark

      part : first_part (get_or s a 0) ≡ calling (calls_so_far []) (begun (mark_of (eqb l 35)))
      part = rw its.1 (mark_part l mark)

module _ {s : List ℕ} {p at : ℕ} {k : Bool} {l a : ℕ} (g : Sought s p at k l a) (h : length s ≤ at) where
  pub seek_done : k ≡ false → Seeks s p (Ok None)
  unfolding next_by ends_at pick
  seek_done e ms = g.onto ms ∙ rw (e, drop_of_length-le s {i = at} h) refl

  pub seek_skipping : k ≡ true → Seeks s p (Err (record { fault = Incomplete; place = length s }))
  unfolding next_by ends_at pick
  seek_skipping e = (refl, refl, λ ms. let i : at ≡ length s = omega (arith, g.there) in g.onto ms ∙ rw (e, drop_of_length-le s {i = at} h, i) refl)

-- THE FIRST BYTE 0

-- the place that the search gives, as the machine's
abbrev as_place : Option ℕ → OptionOf ℕ
as_place None = none
as_place (Some z) = some z

zero_pick : (y : Bool) (i : ℕ) (r : Option ℕ) → as_place (cond y (Some i) r) ≡ pick y (some i) (as_place r)
unfolding pick
zero_pick true i r = refl
zero_pick false i r = refl

zero_from : (i : ℕ) (s : List ℕ) → first_zero i s ≡ as_place (position_from (λ b. eqb b 0) i s)
unfolding first_zero
zero_from i [] = refl
zero_from i (b ∷ bs) = rw (zero_from (suc i) bs, zero_pick (eqb b 0) i (position_from (λ x. eqb x 0) (i + 1) bs), add-one) refl

zero_place : (s : List ℕ) {r : Option ℕ} → r ≡ position (λ b. eqb b 0) s → first_zero 0 s ≡ as_place r
zero_place s e = rw e (zero_from 0 s ∙ ap as_place (sym (position_from-zero (λ b. eqb b 0) s)))

pub zero_at : (s : List ℕ) {r : Option ℕ} {z : ℕ} → r ≡ position (λ b. eqb b 0) s → r ≡ Some z → first_zero 0 s ≡ some z
zero_at s e f = zero_place s e ∙ ap as_place f

pub zero_none : (s : List ℕ) {r : Option ℕ} → r ≡ position (λ b. eqb b 0) s → r ≡ None → first_zero 0 s ≡ none
zero_none s e f = zero_place s e ∙ ap as_place f

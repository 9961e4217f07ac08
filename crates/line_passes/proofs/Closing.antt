-- The macros that are due, and those that have passed, by the bytes that say so.
-- Assumes nothing.
use Prim.Native.Nat.{ℕ, zero, suc, ◌+◌, ◌≤◌, ◌<◌}
use mathlib.Core.Path.{◌≡◌, refl, ap, sym, ◌∙◌}
use mathlib.Core.Bool.{Bool, true, false}
use mathlib.Core.List.{List, [], ◌∷◌, ◌++◌, reverse, reverse-append}
use native.Mathlib.Nat.{add-zero}
use native.Mathlib.Decide.{dec_le}
use native.Mathlib.Omega.{arith}
use borrow.Author.Tests.{eqb-true, eqb-false, eq-eqb, ne_eqb}
use lib.Dec.{eqb}
use lib.ListN.{length, get_or, take, set, replicate, get_or-replicate}
use lib.Seq.{take_all, length-take-le, get_or-set_same, get_or-set_other}
use Rattle.macros.specs.Bounds.{most_macros}
use Rattle.macros.specs.Macro.{Symbol, Macro, Table, pick}
use Rattle.macros.specs.Macro.Symbol.{equal, less}
use Rattle.form_table.specs.Form.{symbol_code}
use Rattle.lines.specs.Line.{Numbered, is_in, unless_closed, open_from, newest_first, closing}
use Rattle.line_memory.specs.Memory.{IsTable}
use Rattle.line_begin.specs.Flags.{is_set, Begun, begun_flags}
use Rattle.line_stand.specs.Closed.{closed_flags, OpenBelow}
use Rattle.line_passes.specs.Due.{due_below, Closes}
use Rattle.line_memory.proofs.Slotting.{SlotAt, slot_at}

-- WHICH ARE DUE

unless_append : (c : Bool) (e : Numbered) (l r : List Numbered) → unless_closed c e (l ++ r) ≡ unless_closed c e l ++ r
unfolding unless_closed
unless_append true e l r = refl
unless_append false e l r = refl

open_append : (n : ℕ) (closed : List ℕ) (ms : Table) (m : Macro)
    → open_from n closed (ms ++ (m ∷ [])) ≡ open_from n closed ms ++ unless_closed (is_in (n + length ms) closed) (record { number = n + length ms; macro = m }) []
unfolding open_from
open_append n closed [] m = rw (add-zero n) refl
open_append n closed (x ∷ ms) m =
    let e : suc n + length ms ≡ n + suc (length ms) = omega arith in
    ap (unless_closed (is_in n closed) (record { number = n; macro = x })) (rw e at (open_append (suc n) closed ms m))
    ∙ unless_append (is_in n closed) (record { number = n; macro = x }) (open_from (suc n) closed ms) _

unless_reverse : (c : Bool) (e : Numbered) (l : List Numbered) → reverse (unless_closed c e []) ++ l ≡ unless_closed c e l
unfolding unless_closed
unless_reverse true e l = refl
unless_reverse false e l = refl

module _ (closed : List ℕ) (ms : Table) where
  -- one macro more
  pub due_next : (k : ℕ) (m : Macro) → k ≤ length ms → take (suc k) ms ≡ take k ms ++ (m ∷ []) → due_below (suc k) closed ms ≡ unless_closed (is_in k closed) (record { number = k; macro = m }) (due_below k closed ms)
  unfolding due_below
  due_next k m l e =
      let n : 0 + length (take k ms) ≡ k = omega (arith, length-take-le k ms l) in
      ap (λ (y : Table). reverse (open_from 0 closed y)) e
      ∙ (ap reverse (rw n at (open_append 0 closed (take k ms) m))
      ∙ (reverse-append (open_from 0 closed (take k ms)) _ ∙ unless_reverse (is_in k closed) _ _))

  -- all
  pub due_all : (k : ℕ) → length ms ≡ k → due_below k closed ms ≡ newest_first closed ms
  unfolding due_below newest_first
  due_all k e = ap (λ (y : Table). reverse (open_from 0 closed y)) (take_all k ms (omega arith))

-- THE BYTES

module _ (table : List ℕ) (ms : Table) (h : IsTable table ms) (flags closed : List ℕ) (g : Closes flags closed) where
  -- closed macros are passed over
  pub skipped : (k r : ℕ) → k ≤ length ms → r ≤ k → ((i : ℕ) → r ≤ i → i < k → get_or flags i 0 ≡ 1) → due_below k closed ms ≡ due_below r closed ms
  unfolding unless_closed
  skipped zero r l e f = let z : r ≡ 0 = omega arith in rw z refl
  skipped (suc k) r l e f = by (dec_le r k) (λ y. skipped k r (omega arith) y (λ i a b. f i a (omega arith)))
    where
      by : Dec (r ≤ k) → (r ≤ k → due_below k closed ms ≡ due_below r closed ms) → due_below (suc k) closed ms ≡ due_below r closed ms
      by (no n) ih = let z : r ≡ suc k = omega arith in rw z refl
      by (yes y) ih =
          let s = slot_at table ms h k (omega arith) in
          let c : is_in k closed ≡ true = g k (omega (arith, h.accepted.count)) ∙ eq-eqb (get_or flags k 0) 1 (f k y (omega arith)) in
          due_next closed ms k s.macro (omega arith) s.there ∙ (rw c refl ∙ ih y)

  -- none is open
  pub none_due : (k : ℕ) → k ≤ length ms → OpenBelow flags k 0 → due_below k closed ms ≡ []
  unfolding due_below open_from
  none_due k l o = skipped k 0 l (omega arith) o.closed

  -- the newest open one
  pub first_due_lem : (k r : ℕ) → k ≤ length ms → OpenBelow flags k (suc r) → (s : SlotAt table ms r) → due_below k closed ms ≡ record { number = r; macro = s.macro } ∷ due_below r closed ms
  unfolding unless_closed
  first_due_lem k r l o s =
      let c : is_in r closed ≡ false = g r (omega (arith, h.accepted.count, o.below)) ∙ ne_eqb (get_or flags r 0) 1 (o.opened r refl) in
      skipped k (suc r) l o.below o.closed ∙ (due_next closed ms r s.macro (omega (arith, o.below)) s.there ∙ rw c refl)

-- CLOSED AND BEGUN

pub none_closed : Closes (replicate most_macros 0) []
unfolding is_in
none_closed i h = sym (ap (λ (b : ℕ). eqb b 1) (get_or-replicate most_macros i 0 0 h))

pub none_begun : Begun (replicate most_macros 0) []
unfolding is_in
none_begun i h = sym (ap is_set (get_or-replicate most_macros i 0 0 h))

module _ (i k : ℕ) (ks : List ℕ) where
  in_split : (b : Bool) → eqb i k ≡ b → is_in i (k ∷ ks) ≡ elim b [ true ↦ true | false ↦ is_in i ks ]
  unfolding is_in
  in_split b e = rw (e, is_in)

pub closes_more : (flags closed : List ℕ) (k : ℕ) → Closes flags closed → k < length flags → (y : Symbol) → Closes (closed_flags flags (symbol_code y) k) (closing y k closed)
unfolding closed_flags symbol_code closing pick
closes_more flags closed k g l equal i h = g i h
closes_more flags closed k g l less i h = by (eqb i k) refl
  where
    by : (b : Bool) → eqb i k ≡ b → is_in i (k ∷ closed) ≡ eqb (get_or (set flags k 1) i 0) 1
    by true e = in_split i k closed true e ∙ sym (ap (λ (j : ℕ). eqb (get_or (set flags k 1) j 0) 1) (eqb-true i k e) ∙ ap (λ (b : ℕ). eqb b 1) (get_or-set_same flags k 1 0 l))
    by false e = in_split i k closed false e ∙ (g i h ∙ sym (ap (λ (b : ℕ). eqb b 1) (get_or-set_other flags k i 1 0 (eqb-false i k e))))

module _ (flags : List ℕ) (k : ℕ) (l : k < length flags) where
  -- an open macro that begins stays open
  pub closes_begun : (closed : List ℕ) → (get_or flags k 0 ≡ 1 → ⊥) → Closes flags closed → Closes (begun_flags flags k) closed
  unfolding begun_flags
  closes_begun closed o g i h = by (eqb i k) refl
    where
      by : (b : Bool) → eqb i k ≡ b → is_in i closed ≡ eqb (get_or (set flags k 2) i 0) 1
      by true e =
          let z : i ≡ k = eqb-true i k e in
          g i h ∙ ap (λ (j : ℕ). eqb (get_or flags j 0) 1) z ∙ ne_eqb (get_or flags k 0) 1 o
          ∙ sym (ap (λ (j : ℕ). eqb (get_or (set flags k 2) j 0) 1) z ∙ ap (λ (b : ℕ). eqb b 1) (get_or-set_same flags k 2 0 l))
      by false e = g i h ∙ sym (ap (λ (b : ℕ). eqb b 1) (get_or-set_other flags k i 2 0 (eqb-false i k e)))

  -- and has passed
  pub begun_more : (begun : List ℕ) → Begun flags begun → Begun (begun_flags flags k) (k ∷ begun)
  unfolding begun_flags
  begun_more begun g i h = by (eqb i k) refl
    where
      by : (b : Bool) → eqb i k ≡ b → is_in i (k ∷ begun) ≡ is_set (get_or (set flags k 2) i 0)
      by true e = in_split i k begun true e ∙ sym (ap (λ (j : ℕ). is_set (get_or (set flags k 2) j 0)) (eqb-true i k e) ∙ ap is_set (get_or-set_same flags k 2 0 l))
      by false e = in_split i k begun false e ∙ (g i h ∙ sym (ap is_set (get_or-set_other flags k i 2 0 (eqb-false i k e))))

  -- closing one that has passed leaves it so
  pub begun_closed : (begun : List ℕ) (s : ℕ) → Begun flags (k ∷ begun) → Begun (closed_flags flags s k) (k ∷ begun)
  unfolding closed_flags pick
  begun_closed begun s g i h = from (eqb s 1)
    where
      by : (b : Bool) → eqb i k ≡ b → is_in i (k ∷ begun) ≡ is_set (get_or (set flags k 1) i 0)
      by true e = in_split i k begun true e ∙ sym (ap (λ (j : ℕ). is_set (get_or (set flags k 1) j 0)) (eqb-true i k e) ∙ ap is_set (get_or-set_same flags k 1 0 l))
      by false e = g i h ∙ sym (ap is_set (get_or-set_other flags k i 1 0 (eqb-false i k e)))

      from : (t : Bool) → is_in i (k ∷ begun) ≡ is_set (get_or (pick t (set flags k 1) flags) i 0)
      from true = by (eqb i k) refl
      from false = g i h

-- The slots of a table: which macro stands in a slot, and how many there are.
-- Assumes nothing.
use Prim.Native.Nat.{ℕ, zero, suc, ◌+◌, ◌-◌, ◌*◌, ◌≤◌, ◌<◌}
use mathlib.Core.Path.{◌≡◌, refl, ap, sym, ◌∙◌, subst}
use mathlib.Core.List.{List, [], ◌∷◌, ◌++◌, append_assoc}
use native.Mathlib.Nat.{add-zero}
use native.Mathlib.Numerals.{add-one}
use native.Mathlib.Decide.{dec_le}
use native.Mathlib.Omega.{arith}
use lib.ListN.{length, get_or, take, drop, replicate, length-drop, get_or-replicate}
use lib.Seq.{take_at, take-add, drop-append-add, get_or-drop, get_or-append-add}
use Rattle.macros.specs.Bounds.{most_macros}
use Rattle.macros.specs.Macro.{Symbol, Macro, Table}
use Rattle.macros.specs.Macro.Symbol.{equal, less}
use Rattle.macros.specs.Accepted.{Spellable, Each}
use Rattle.macros.proofs.Laws.{each_spellable}
use Rattle.form_table.specs.Form.{slot_bytes, table_bytes, symbol_code, header, slot, slots, form}
use Rattle.form_table.proofs.Tables.{slot_size, slots_size, form_size}
use Rattle.line_memory.specs.Memory.{IsTable}

-- behind the first k slots
slots_drop : (ms : Table) → Each Spellable ms → (k : ℕ) → k ≤ length ms → (z : List ℕ) → drop (slot_bytes * k) (slots ms ++ z) ≡ slots (drop k ms) ++ z
unfolding slots
slots_drop [] a zero h z = refl
slots_drop [] a (suc k) h z = absurd (omega arith)
slots_drop (m ∷ ms) a zero h z = refl
slots_drop (m ∷ ms) a (suc k) h z =
    let l = slot_size m a.0 in
    let e : slot_bytes * suc k ≡ length (slot m) + slot_bytes * k = omega arith in
    rw (e, append_assoc (slot m) (slots ms) z, drop-append-add (slot m) (slots ms ++ z) (slot_bytes * k)) (slots_drop ms a.1 k (omega arith) z)

each_drop : (ms : Table) → Each Spellable ms → (k : ℕ) → Each Spellable (drop k ms)
each_drop [] a zero = tt
each_drop [] a (suc k) = tt
each_drop (m ∷ ms) a zero = a
each_drop (m ∷ ms) a (suc k) = each_drop ms a.1 k

some_code : (y : Symbol) → 0 < symbol_code y
unfolding symbol_code
some_code equal = omega arith
some_code less = omega arith

first_byte : (m : Macro) (z : List ℕ) → get_or (slot m ++ z) 0 0 ≡ symbol_code m.symbol
unfolding slot header
first_byte m z = refl

-- the macro with the number k
pub record SlotAt (table : List ℕ) (ms : Table) (k : ℕ) : Type 0 where
  pub macro : Macro
  pub spellable : Spellable macro
  pub bytes : slot macro ≡ take slot_bytes (drop (slot_bytes * k) table)
  pub first : get_or table (slot_bytes * k) 0 ≡ symbol_code macro.symbol
  pub there : take (suc k) ms ≡ take k ms ++ (macro ∷ [])

module _ (table : List ℕ) (ms : Table) (h : IsTable table ms) where
  pub table_size : length table ≡ table_bytes
  table_size = ap length (sym h.form) ∙ (form_size ms h.accepted).0

  zeros : List ℕ
  zeros = replicate (slot_bytes * (most_macros - length ms)) 0

  at_slot : (k : ℕ) (m : Macro) (xs : Table) → k < length ms → drop k ms ≡ m ∷ xs → SlotAt table ms k
  unfolding form slots zeros
  at_slot k m xs l e =
      let a : Each Spellable (m ∷ xs) = subst (Each Spellable) e (each_drop ms (each_spellable h.accepted) k) in
      let d : drop (slot_bytes * k) table ≡ slot m ++ (slots xs ++ zeros) =
      ap (drop (slot_bytes * k)) (sym h.form) ∙ slots_drop ms (each_spellable h.accepted) k (omega arith) zeros
      ∙ (ap (λ (y : Table). slots y ++ zeros) e ∙ append_assoc (slot m) (slots xs) zeros) in
      let f : get_or (drop (slot_bytes * k) table) 0 0 ≡ get_or table (slot_bytes * k) 0 =
      get_or-drop (slot_bytes * k) table 0 0 ∙ ap (λ (i : ℕ). get_or table i 0) (add-zero (slot_bytes * k)) in
      record {
        macro = m;
        spellable = a.0;
        bytes = sym (ap (take slot_bytes) d ∙ take_at (slot m) (slots xs ++ zeros) slot_bytes (slot_size m a.0));
        first = sym f ∙ (ap (λ (y : List ℕ). get_or y 0 0) d ∙ first_byte m (slots xs ++ zeros));
        there = ap (λ (i : ℕ). take i ms) (sym (add-one k)) ∙ (take-add k 1 ms ∙ ap (λ (y : Table). take k ms ++ take 1 y) e);
      }

  pub slot_at : (k : ℕ) → k < length ms → SlotAt table ms k
  slot_at k l = by (drop k ms) refl
    where
      by : (xs : Table) → drop k ms ≡ xs → SlotAt table ms k
      by [] e = absurd (let d : length (drop k ms) ≡ 0 = ap length e in omega (arith, length-drop k ms))
      by (m ∷ xs) e = at_slot k m xs l e

  unused : (k : ℕ) → length ms ≤ k → k < most_macros → get_or table (slot_bytes * k) 0 ≡ 0
  unfolding form
  unused k l g =
      let z : length (slots ms) ≡ slot_bytes * length ms = slots_size ms (each_spellable h.accepted) in
      let c = h.accepted.count in
      let i : ℕ = slot_bytes * k - length (slots ms) in
      let e : slot_bytes * k ≡ length (slots ms) + i = omega arith in
      let f : i < slot_bytes * (most_macros - length ms) = omega arith in
      ap (λ (y : List ℕ). get_or y (slot_bytes * k) 0) (sym h.form)
      ∙ (ap (λ (j : ℕ). get_or (form ms) j 0) e
      ∙ (get_or-append-add (slots ms) (replicate (slot_bytes * (most_macros - length ms)) 0) i 0 ∙ get_or-replicate (slot_bytes * (most_macros - length ms)) i 0 0 f))

  -- a slot in use, and the first unused one
  pub used_slot : (k : ℕ) → k < most_macros → (get_or table (slot_bytes * k) 0 ≡ 0 → ⊥) → k + 1 ≤ length ms
  used_slot k g f = by (dec_le (k + 1) (length ms))
    where
      by : Dec (k + 1 ≤ length ms) → k + 1 ≤ length ms
      by (yes l) = l
      by (no n) = absurd (f (unused k (omega arith) g))

  pub unused_slot : (k : ℕ) → k ≤ length ms → get_or table (slot_bytes * k) 0 ≡ 0 → length ms ≡ k
  unused_slot k l e = by (dec_le (k + 1) (length ms))
    where
      by : Dec (k + 1 ≤ length ms) → length ms ≡ k
      by (yes g) = let s = slot_at k (omega arith) in absurd (omega (arith, s.first, some_code s.macro.symbol))
      by (no n) = omega arith

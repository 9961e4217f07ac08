-- The slots of a table, one after the other.
-- Assumes nothing.
use Prim.Native.Nat.{ℕ, zero, suc, ◌+◌, ◌-◌, ◌*◌, ◌≤◌, ◌<◌}
use mathlib.Core.Path.{◌≡◌, refl, ap, sym, ◌∙◌, subst}
use mathlib.Core.List.{List, [], ◌∷◌, ◌++◌, append_assoc}
use native.Mathlib.Nat.{add-zero}
use native.Mathlib.Omega.{arith}
use lib.ListN.{length, get_or, take, drop, replicate, length-append, length-replicate, length-drop}
use lib.Seq.{take_at, drop-drop, drop-append-add, get_or-drop}
use Rattle.macros.specs.Bounds.{most_macros}
use Rattle.macros.specs.Macro.{Symbol, Macro, Table}
use Rattle.macros.specs.Macro.Symbol.{equal, less}
use Rattle.macros.specs.Write.{written}
use Rattle.macros.specs.Accepted.{Spellable, Each}
use Rattle.macros.proofs.Laws.{each_spellable}
use Rattle.form_table.specs.Form.{symbol_code, header, body, body_bytes, slot, slots, slot_bytes, form, table_bytes}
use Rattle.write_file.specs.Slots.{slot_text, Parts, Holds}
use Rattle.form_table.proofs.Sizes.{body_size}
use Rattle.form_table.proofs.Actions.{slot_length}
use Rattle.write_file.proofs.Slotted.{slot_text_lem, slot_parts}

pub body_room : (m : Macro) → Spellable m → length (body m) ≤ body_bytes
body_room m s = omega (arith, body_size m, s.1)

spelled_length : (m : Macro) → Spellable m → length (slot m) ≡ slot_bytes
spelled_length m s = slot_length m (body_room m s)

-- behind the first k slots
slots_drop : (ms : Table) → Each Spellable ms → (k : ℕ) → k ≤ length ms → (z : List ℕ) → drop (slot_bytes * k) (slots ms ++ z) ≡ slots (drop k ms) ++ z
unfolding slots
slots_drop [] a zero h z = refl
slots_drop [] a (suc k) h z = absurd (omega arith)
slots_drop (m ∷ ms) a zero h z = refl
slots_drop (m ∷ ms) a (suc k) h z =
    let l = spelled_length m a.0 in
    let e : slot_bytes * suc k ≡ length (slot m) + slot_bytes * k = omega arith in
    rw (e, append_assoc (slot m) (slots ms) z, drop-append-add (slot m) (slots ms ++ z) (slot_bytes * k)) (slots_drop ms a.1 k (omega arith) z)

slots_length : (ms : Table) → Each Spellable ms → length (slots ms) ≡ slot_bytes * length ms
unfolding slots
slots_length [] a = refl
slots_length (m ∷ ms) a = let l = length-append (slot m) (slots ms) in let x = spelled_length m a.0 in let y = slots_length ms a.1 in omega arith

each_drop : (ms : Table) → Each Spellable ms → (k : ℕ) → Each Spellable (drop k ms)
each_drop [] a zero = tt
each_drop [] a (suc k) = tt
each_drop (m ∷ ms) a zero = a
each_drop (m ∷ ms) a (suc k) = each_drop ms a.1 k

some_code : (s : Symbol) → 0 < symbol_code s
unfolding symbol_code
some_code equal = omega arith
some_code less = omega arith

first_symbol : (m : Macro) (z : List ℕ) → 0 < get_or (slot m ++ z) 0 0
unfolding slot header
first_symbol m z = some_code m.symbol

zeros_at : (n : ℕ) → ◌≡◌ {A = ℕ} (get_or (replicate n 0) 0 0) 0
zeros_at zero = refl
zeros_at (suc n) = refl

pub table_length : (t : List ℕ) (ms : Table) → Holds t ms → length t ≡ table_bytes
unfolding form
table_length t ms h =
    let a = length-append (slots ms) (replicate (slot_bytes * (most_macros - length ms)) 0) in
    let b = length-replicate {A = ℕ} (slot_bytes * (most_macros - length ms)) 0 in
    let c = slots_length ms (each_spellable h.0) in
    let d = h.0.count in
    let e : length (form ms) ≡ length t = ap length h.1 in
    omega arith

-- what stands in slot k
pub record Slot (t : List ℕ) (ms : Table) (k : ℕ) : Type 0 where
  pub macro : Macro
  pub others : Table
  pub split : drop k ms ≡ macro ∷ others
  pub more : k + 1 ≤ length ms
  pub next : drop (k + 1) ms ≡ others
  pub text : written macro ≡ slot_text (take (slot_bytes * k + slot_bytes - slot_bytes * k) (drop (slot_bytes * k) t))
  pub parts : Parts (take (slot_bytes * k + slot_bytes - slot_bytes * k) (drop (slot_bytes * k) t))

module _ (t : List ℕ) (ms : Table) (h : Holds t ms) (k : ℕ) (l : k ≤ length ms) where
  zeros : List ℕ
  zeros = replicate (slot_bytes * (most_macros - length ms)) 0

  behind : drop (slot_bytes * k) t ≡ slots (drop k ms) ++ zeros
  unfolding form zeros
  behind = ap (drop (slot_bytes * k)) (sym h.1) ∙ slots_drop ms (each_spellable h.0) k l zeros

  byte_there : get_or t (slot_bytes * k) 0 ≡ get_or (slots (drop k ms) ++ zeros) 0 0
  byte_there = ap (λ (i : ℕ). get_or t i 0) (sym (add-zero (slot_bytes * k))) ∙ sym (get_or-drop (slot_bytes * k) t 0 0) ∙ ap (λ (x : List ℕ). get_or x 0 0) behind

  used_slot : (m : Macro) (xs : Table) → drop k ms ≡ m ∷ xs → get_or t (slot_bytes * k) 0 ≡ 0 → ⊥
  unfolding slots
  used_slot m xs q e =
      let a : get_or t (slot_bytes * k) 0 ≡ get_or (slot m ++ (slots xs ++ zeros)) 0 0 = byte_there ∙ ap (λ (y : Table). get_or (slots y ++ zeros) 0 0) q ∙ ap (λ (y : List ℕ). get_or y 0 0) (append_assoc (slot m) (slots xs) zeros) in
      let b = first_symbol m (slots xs ++ zeros) in
      omega arith

  free_slot : drop k ms ≡ [] → get_or t (slot_bytes * k) 0 ≡ 0
  unfolding slots zeros
  free_slot q = byte_there ∙ ap (λ (y : Table). get_or (slots y ++ zeros) 0 0) q ∙ zeros_at (slot_bytes * (most_macros - length ms))

  there : (m : Macro) (xs : Table) → drop k ms ≡ m ∷ xs → Slot t ms k
  unfolding slots
  there m xs q =
      let a : Each Spellable (m ∷ xs) = subst (Each Spellable) q (each_drop ms (each_spellable h.0) k) in
      let d : length (drop k ms) ≡ length ms - k = length-drop k ms in
      let d2 : length (drop k ms) ≡ suc (length xs) = ap length q in
      let s : take (slot_bytes * k + slot_bytes - slot_bytes * k) (drop (slot_bytes * k) t) ≡ slot m =
      ap (take (slot_bytes * k + slot_bytes - slot_bytes * k)) (behind ∙ ap (λ (y : Table). slots y ++ zeros) q ∙ append_assoc (slot m) (slots xs) zeros)
      ∙ take_at (slot m) (slots xs ++ zeros) (slot_bytes * k + slot_bytes - slot_bytes * k) (let z = spelled_length m a.0 in omega arith)
      in
      record {
        macro = m;
        others = xs;
        split = q;
        more = omega arith;
        next = sym (drop-drop 1 k ms) ∙ ap (drop 1) q;
        text = sym (ap slot_text s ∙ slot_text_lem m a.0.0);
        parts = subst Parts (sym s) (slot_parts m (body_room m a.0));
      }

  -- an unused slot is behind the last macro
  pub unused : get_or t (slot_bytes * k) 0 ≡ 0 → drop k ms ≡ []
  unused e = by (drop k ms) refl
    where
      by : (xs : Table) → drop k ms ≡ xs → xs ≡ []
      by [] q = refl
      by (m ∷ xs) q = absurd (used_slot m xs q e)

  -- a used slot is that of the next macro
  pub used : (get_or t (slot_bytes * k) 0 ≡ 0 → ⊥) → Slot t ms k
  used f = by (drop k ms) refl
    where
      by : (xs : Table) → drop k ms ≡ xs → Slot t ms k
      by [] q = absurd (f (free_slot q))
      by (m ∷ xs) q = there m xs q

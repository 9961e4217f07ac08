-- The check is exact, and a form has its size.
use mathlib.Core.Path.{◌≡◌, refl, sym, ◌∙◌}
use mathlib.Core.Bool.{Bool, true, false, ◌&&◌}
use mathlib.Core.List.{List, [], ◌∷◌, ◌++◌, append_assoc, reverse}
use Prim.Native.Nat.{ℕ, zero, suc, ◌-◌, ◌*◌, ◌≤◌}
use native.Mathlib.Omega.{arith}
use lib.Dec.{eqb}
use lib.ListN.{length, replicate, get_or, take, drop, length-append, length-replicate, length-drop, take-append-drop}
use lib.Seq.{take_at, drop_at, length-take-le}
use borrow.Author.Tests.{eq-eqb, eqb-true}
use Rattle.macros.specs.Bounds.{most_macros, most_tags}
use Rattle.macros.specs.Macro.{Symbol, Macro, Table, tags}
use Rattle.macros.specs.Macro.Symbol.{equal, less}
use Rattle.macros.specs.Formed.{Octets}
use Rattle.macros.specs.Accepted.{Spellable, Each, Accepted}
use Rattle.macros.proofs.Laws.{accepted_means, each_spellable}
use Rattle.form_table.specs.Form.{slot_bytes, body_bytes, table_bytes, pattern_items, replacement_items, calls_items, two, symbol_code, header, body, slot, slots, form}
use Rattle.form_table.specs.FormLaws.{Fits, FormSize}
use Rattle.form_bytes.specs.Zeros.{all_zero}
use Rattle.form_table.specs.Check.{slot_fits, slots_fit, checks, CheckExact}
use Rattle.form_table.proofs.Basics.{and_left, and_right, and_both, octets_append, octets_zeros, octets_take, octets_drop}
use Rattle.form_table.proofs.Order.{few_tags, tags_reverse}
use Rattle.form_table.proofs.Sizes.{body_length, body_size}
use Rattle.form_table.proofs.Octet.{pattern_octets, replacement_octets, commands_octets}
use Rattle.form_table.proofs.Slots.{zero_all, all_zero_lem, slot_there, slot_sound}

-- SIZES

symbol_octet : (y : Symbol) → symbol_code y ≤ 255
unfolding symbol_code
symbol_octet equal = omega arith
symbol_octet less = omega arith

pub symbol_used : (y : Symbol) → eqb (symbol_code y) 0 ≡ false
unfolding symbol_code
symbol_used equal = refl
symbol_used less = refl

module _ (m : Macro) (f : Spellable m) where
  items_size : length (body m) ≤ 1012
  items_size = omega (arith, body_size m, f.1)

  pub slot_size : length (slot m) ≡ slot_bytes
  unfolding slot header two
  slot_size =
      let e : length (body m ++ replicate (body_bytes - length (body m)) 0) ≡ body_bytes =
      length-append (body m) (replicate (body_bytes - length (body m)) 0) ∙ omega (arith, length-replicate {A = ℕ} (body_bytes - length (body m)) 0, items_size) in
      omega (arith, e)

  tags_size : tags m.pattern ≤ most_tags
  tags_size = rw tags_reverse at (few_tags (reverse m.pattern) f.0.pattern.pieces)

  body_octets : Octets (body m)
  unfolding body
  body_octets =
      let k : tags (reverse m.pattern) ≤ most_tags = few_tags (reverse m.pattern) f.0.pattern.pieces in
      octets_append (calls_items m.before) _ (commands_octets 0 m.before (omega arith) f.0.before)
      (octets_append (pattern_items m.pattern) _ (pattern_octets m.pattern [] f.0.pattern.pieces)
      (octets_append (replacement_items m.replacement) _ (replacement_octets _ m.replacement k f.0.replacement) (commands_octets _ m.commands k f.0.commands)))

  header_octets : Octets (header m)
  unfolding header two
  header_octets = omega (arith, symbol_octet m.symbol, tags_size, body_length m, items_size)

  slot_octets : Octets (slot m)
  unfolding slot
  slot_octets =
      octets_append (header m) (body m ++ replicate (body_bytes - length (body m)) 0) header_octets
      (octets_append (body m) (replicate (body_bytes - length (body m)) 0) body_octets (octets_zeros (body_bytes - length (body m))))

  slot_fits_lem : Fits m
  slot_fits_lem = record { tagged = tags_size; items = items_size; whole = slot_size; bytes = slot_octets }

pub slots_size : (ms : Table) → Each Spellable ms → length (slots ms) ≡ slot_bytes * length ms
unfolding slots
slots_size [] f = refl
slots_size (m ∷ ms) f = simp length-append (omega (arith, slot_size m f.0, slots_size ms f.1))

slots_octets : (ms : Table) → Each Spellable ms → Octets (slots ms)
unfolding slots
slots_octets [] f = tt
slots_octets (m ∷ ms) f = octets_append (slot m) (slots ms) (slot_octets m f.0) (slots_octets ms f.1)

each_fits : (ms : Table) → Each Spellable ms → Each Fits ms
each_fits [] f = tt
each_fits (m ∷ ms) f = (slot_fits_lem m f.0, each_fits ms f.1)

form_size_lem : (ms : Table) → Accepted ms → length (form ms) ≡ table_bytes
unfolding form
form_size_lem ms f = simp (length-append, length-replicate) (omega (arith, slots_size ms (each_spellable f), f.count))

pub form_size : FormSize
unfolding form
form_size ms f =
    (form_size_lem ms f, octets_append (slots ms) _ (slots_octets ms (each_spellable f)) (octets_zeros (slot_bytes * (most_macros - length ms))), each_fits ms (each_spellable f))

-- THERE

pub slots_unused : (k : ℕ) (b : List ℕ) → eqb (get_or b 0 0) 0 ≡ true → slots_fit (suc k) b ≡ all_zero b
unfolding slots_fit
slots_unused k b e = rw (e, slots_fit)

pub slots_used : (k : ℕ) (b : List ℕ) → eqb (get_or b 0 0) 0 ≡ false → slots_fit (suc k) b ≡ (slot_fits (take slot_bytes b) && slots_fit k (drop slot_bytes b))
unfolding slots_fit
slots_used k b e = rw (e, slots_fit)

-- a table's bytes, with room for k macros
abbrev pub filled : ℕ → Table → List ℕ
filled k ms = slots ms ++ replicate (slot_bytes * (k - length ms)) 0

pub zero_first : (n : ℕ) → eqb (get_or (replicate n 0) 0 0) 0 ≡ true
zero_first zero = refl
zero_first (suc n) = refl

module _ (k : ℕ) (m : Macro) (ms : Table) (f : Spellable m) where
  pub first_slot : take slot_bytes (filled (suc k) (m ∷ ms)) ≡ slot m
  unfolding slots
  first_slot = rw (append_assoc (slot m)) (take_at (slot m) _ slot_bytes (slot_size m f))

  pub more_slots : drop slot_bytes (filled (suc k) (m ∷ ms)) ≡ filled k ms
  unfolding slots
  more_slots =
      let e : suc k - suc (length ms) ≡ k - length ms = omega arith in
      rw (append_assoc (slot m), drop_at (slot m) (slots ms ++ replicate (slot_bytes * (suc k - suc (length ms))) 0) slot_bytes (slot_size m f), e)

  pub first_used : eqb (get_or (filled (suc k) (m ∷ ms)) 0 0) 0 ≡ false
  unfolding slots slot header
  first_used = symbol_used m.symbol

slots_there : (k : ℕ) (ms : Table) → length ms ≤ k → Each Spellable ms → slots_fit k (filled k ms) ≡ true
unfolding slots_fit slots
slots_there zero [] h f = refl
slots_there zero (m ∷ ms) h f = absurd (omega arith)
slots_there (suc k) [] h f = slots_unused k (filled (suc k) []) (zero_first (slot_bytes * (suc k - 0))) ∙ zero_all (slot_bytes * (suc k - 0))
slots_there (suc k) (m ∷ ms) h f =
    slots_used k (filled (suc k) (m ∷ ms)) (first_used k m ms f.0)
    ∙ rw (first_slot k m ms f.0, more_slots k m ms f.0) (and_both (slot_there m f.0) (slots_there k ms (omega arith) f.1))

-- SOUND

pub record TableOf (k : ℕ) (b : List ℕ) : Type 0 where
  pub table : Table
  pub count : length table ≤ k
  pub macros : Each Spellable table
  pub bytes : filled k table ≡ b

empty : (b : List ℕ) → length b ≡ 0 → [] ≡ b
empty [] e = refl
empty (x ∷ b) e = absurd (omega arith)

slots_sound : (k : ℕ) (b : List ℕ) → length b ≡ slot_bytes * k → Octets b → slots_fit k b ≡ true → TableOf k b
unfolding slots
slots_sound zero b h o e = record { table = []; count = omega arith; macros = tt; bytes = empty b h }
slots_sound (suc k) b h o e = by (eqb (get_or b 0 0) 0) refl (λ g p q. slots_sound k (drop slot_bytes b) g p q)
  where
    add : (m : Macro) × Spellable m × (slot m ≡ take slot_bytes b) → TableOf k (drop slot_bytes b) → TableOf (suc k) b
    add m t =
        let p : suc k - suc (length t.table) ≡ k - length t.table = omega arith in
        record {
          table = m.0 ∷ t.table;
          count = omega (arith, t.count);
          macros = (m.1, t.macros);
          bytes = rw (append_assoc (slot m.0), p, t.bytes, m.2) (take-append-drop slot_bytes b);
        }

    by : (x : Bool) → eqb (get_or b 0 0) 0 ≡ x
        → (length (drop slot_bytes b) ≡ slot_bytes * k → Octets (drop slot_bytes b) → slots_fit k (drop slot_bytes b) ≡ true → TableOf k (drop slot_bytes b))
        → TableOf (suc k) b
    by true q ih =
        let p : slot_bytes * (suc k - 0) ≡ length b = omega arith in
        record { table = []; count = omega arith; macros = tt; bytes = rw p (sym (all_zero_lem b (sym (slots_unused k b q) ∙ e))) }
    by false q ih =
        let g : (slot_fits (take slot_bytes b) && slots_fit k (drop slot_bytes b)) ≡ true = sym (slots_used k b q) ∙ e in
        add
        (slot_sound (take slot_bytes b) (length-take-le slot_bytes b (omega arith)) (octets_take slot_bytes b o) (and_left _ _ g))
        (ih (length-drop slot_bytes b ∙ omega arith) (octets_drop slot_bytes b o) (and_right (slot_fits (take slot_bytes b)) _ g))

pub check_exact : CheckExact
unfolding checks form
check_exact b o = (sound, there)
  where
    sound : checks b ≡ true → (ms : Table) × Accepted ms × (form ms ≡ b)
    sound e =
        let t : TableOf most_macros b = slots_sound most_macros b (eqb-true (length b) table_bytes (and_left _ _ e)) o (and_right (eqb (length b) table_bytes) _ e) in
        (t.table, (accepted_means t.table).1 (t.count, t.macros), t.bytes)

    there : (ms : Table) × Accepted ms × (form ms ≡ b) → checks b ≡ true
    there t =
        rw (← t.2) (and_both (eq-eqb (length (form t.0)) table_bytes (form_size_lem t.0 t.1)) (slots_there most_macros t.0 t.1.count (each_spellable t.1)))

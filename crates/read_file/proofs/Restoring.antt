-- A file read onto a table: the new table's bytes, and the old table's after a refusal.
-- Assumes nothing.
use mathlib.Core.Path.{◌≡◌, refl, ap, sym, ◌∙◌}
use mathlib.Core.Bool.{false}
use mathlib.Core.List.{List, ◌++◌, reverse, append_assoc, reverse-append, reverse-reverse}
use mathlib.Core.Option.{none, some}
use Prim.Native.Nat.{ℕ, ◌+◌, ◌-◌, ◌*◌, ◌≤◌, ◌<◌}
use native.Mathlib.Omega.{arith}
use lib.ListN.{length, take, drop, replicate, length-append, length-replicate, length-reverse, take-append-drop, replicate-append-replicate}
use lib.Seq.{take_at, drop_at, take-take, drop-drop}
use borrow.Author.Tests.{lt-ltb, le-ltb}
use Rattle.macros.specs.Refusals.{FileRefusal}
use Rattle.macros.specs.Refusals.FileRefusal.{file_too_long, zero_byte}
use Rattle.macros.specs.Macro.{Table, pick}
use Rattle.macros.specs.Read.{read_from, read_onto, first_zero, read_onto_by}
use Rattle.macros.specs.ReadFile.Pending.{clear}
use Rattle.macros.specs.ReadFile.Reader.{between}
use Rattle.macros.specs.ReadFile.Read.{refused_at, table}
use Rattle.macros.specs.Accepted.{Accepted}
use Rattle.macros.proofs.Laws.{each_spellable}
use Rattle.form_table.specs.Form.{slot_bytes, table_bytes, slots, form}
use Rattle.form_table.proofs.Tables.{slots_size, form_size}
use Rattle.read_scan.specs.Scan.{fault_of}
use Rattle.form_items.specs.Items.{Wrote}
use Rattle.read_file.specs.File.{AddsFrom, Lent, Onto}
use Rattle.read_start.specs.Start.{WholeFile}
use Rattle.read_start.specs.Start.WholeFile.{plain, long, zeroed}
use Rattle.read_scan.specs.declared.FileFault.{FileFault}
use Rattle.read_scan.specs.declared.FileFault.TheVariants.{FileTooLong, ZeroByte}
use Rattle.read_scan.specs.declared.ReadError.{ReadError}
use Rattle.read_file.specs.declared.Stopped.{Stopped}
use Rattle.std.specs.Prelude.{Result, Ok, Err}
use Rattle.read_file.proofs.Adding.{slots_append}

-- THE WHOLE FILE FIRST

too_long : (ms : Table) (s : List ℕ) → 32768 < length s → read_onto ms s ≡ refused_at file_too_long 32768
unfolding read_onto_by pick
too_long ms s h = rw (lt-ltb _ _ h) refl

with_zero : (ms : Table) (s : List ℕ) (p : ℕ) → length s ≤ 32768 → first_zero 0 s ≡ some p → read_onto ms s ≡ refused_at zero_byte p
unfolding read_onto_by pick
with_zero ms s p h e = rw (le-ltb _ _ h, e) refl

fresh : (ms : Table) (s : List ℕ) → length s ≤ 32768 → first_zero 0 s ≡ none → read_onto ms s ≡ read_from 0 (between false clear (reverse ms)) s
unfolding read_onto_by pick
fresh ms s h e = rw (le-ltb _ _ h, e) refl

-- a file that is refused as a whole
pub onto_not_plain : (s : List ℕ) (c : ℕ) (old : List ℕ) (e : ReadError) → WholeFile s (Err e) → Onto s c old old (Err e)
onto_not_plain s c old e x = by (Err e) x refl
  where
    by : (t : Result (Unit {0}) ReadError) → WholeFile s t → t ≡ Err e → Onto s c old old (Err e)
    by t (plain h z) k = cc
    by t (long h) k = let i : e ≡ record { fault = FileTooLong; place = 32768 } = cc in rw i (λ ms f e l. (too_long ms s h, refl))
    by t (zeroed q h z) k = let i : e ≡ record { fault = ZeroByte; place = q } = cc in rw i (λ ms f e l. (with_zero ms s q h z, refl))

-- one that is not
pub plain_file : (s : List ℕ) {u : Unit {0}} → WholeFile s (Ok u) → (length s ≤ 32768) × (first_zero 0 s ≡ none)
plain_file s {u} x = by (Ok u) x refl
  where
    by : (t : Result (Unit {0}) ReadError) → WholeFile s t → t ≡ Ok u → (length s ≤ 32768) × (first_zero 0 s ≡ none)
    by t (plain h z) k = (h, z)
    by t (long h) k = cc
    by t (zeroed q h z) k = cc

-- WHAT IS LENT

module _ {old : List ℕ} {c : ℕ} (x : Lent old c) where
  pub lent_size : length old ≡ table_bytes
  lent_size = ap length (sym x.bytes) ∙ (form_size x.itself x.accepted).0

  pub lent_count : c ≤ 96
  lent_count = omega (arith, x.counted, x.accepted.count)

-- BYTES

zeros_split : (i n : ℕ) → i ≤ n → replicate i 0 ++ replicate (n - i) 0 ≡ replicate {A = ℕ} n 0
zeros_split i n h = let e : i + (n - i) ≡ n = omega arith in rw e at (replicate-append-replicate {A = ℕ} i (n - i) 0)

zeros_drop : (i n : ℕ) → i ≤ n → drop i (replicate {A = ℕ} n 0) ≡ replicate (n - i) 0
zeros_drop i n h = ap (drop i) (sym (zeros_split i n h)) ∙ drop_at (replicate i 0) (replicate (n - i) 0) i (length-replicate i 0)

module _ (ms : Table) (f : Accepted ms) (c : ℕ) (l : length ms ≡ c) where
  wide : length (slots ms) ≡ slot_bytes * c
  wide = slots_size ms (each_spellable f) ∙ omega arith

  form_front : take (slot_bytes * c) (form ms) ≡ slots ms
  unfolding form
  form_front = take_at (slots ms) _ (slot_bytes * c) wide

  form_rest : drop (slot_bytes * c) (form ms) ≡ replicate (slot_bytes * (96 - c)) 0
  unfolding form
  form_rest = drop_at (slots ms) _ (slot_bytes * c) wide ∙ rw l refl

  module _ (old : List ℕ) (e : form ms ≡ old) where
    front : take (slot_bytes * c) old ≡ slots ms
    front = rw e at form_front

    rest : drop (slot_bytes * c) old ≡ replicate (slot_bytes * (96 - c)) 0
    rest = rw e at form_rest

    further : (i : ℕ) → i ≤ slot_bytes * (96 - c) → drop (slot_bytes * c + i) old ≡ replicate (slot_bytes * (96 - c) - i) 0
    further i h = sym (drop-drop i (slot_bytes * c) old) ∙ (ap (drop i) rest ∙ zeros_drop i (slot_bytes * (96 - c)) h)

    module _ (out : List ℕ) (new : Table) (n : ℕ) (k : length (slots new) ≡ slot_bytes * length new) (j : n ≡ c + length new) (g : n ≤ 96) (w : Wrote old out (slot_bytes * c) (slots new)) where
      -- the new table
      joined : form (ms ++ new) ≡ out
      unfolding form
      joined =
          let s₁ : take (slot_bytes * c + length (slots new)) out ≡ slots (ms ++ new) = w.written ∙ (ap (λ (x : List ℕ). x ++ slots new) front ∙ sym (slots_append ms new)) in
          let z : slot_bytes * (96 - c) - length (slots new) ≡ slot_bytes * (96 - length (ms ++ new)) = omega (arith, length-append ms new) in
          let s₂ : drop (slot_bytes * c + length (slots new)) out ≡ replicate (slot_bytes * (96 - length (ms ++ new))) 0 = w.kept ∙ (further (length (slots new)) (omega arith) ∙ ap (λ (x : ℕ). replicate x 0) z) in
          rw (← s₁, ← s₂) (take-append-drop (slot_bytes * c + length (slots new)) out)

      same_front : take (slot_bytes * c) out ≡ take (slot_bytes * c) old
      same_front =
          sym (take-take (slot_bytes * c) (slot_bytes * c + length (slots new)) out (omega arith))
          ∙ (ap (take (slot_bytes * c)) w.written ∙ take_at (take (slot_bytes * c) old) (slots new) (slot_bytes * c) (ap length front ∙ wide))

      -- the slots added are zeros again
      restored : (fin : List ℕ) → Wrote out fin (c * 1024) (replicate ((n - c) * 1024) 0) → fin ≡ old
      restored fin v =
          let i : ℕ = length (slots new) in
          let p : c * 1024 ≡ slot_bytes * c = omega arith in
          let q : (n - c) * 1024 ≡ length (slots new) = omega arith in
          let u : Wrote out fin (slot_bytes * c) (replicate (length (slots new)) 0) = rw (p, q) at v in
          let m : length {A = ℕ} (replicate (length (slots new)) 0) ≡ length (slots new) = length-replicate (length (slots new)) 0 in
          let s₁ : take (slot_bytes * c + length (slots new)) fin ≡ take (slot_bytes * c) old ++ replicate (length (slots new)) 0 = (rw m at u.written) ∙ ap (λ (x : List ℕ). x ++ replicate (length (slots new)) 0) same_front in
          let s₂ : drop (slot_bytes * c + length (slots new)) fin ≡ replicate (slot_bytes * (96 - c) - length (slots new)) 0 = (rw m at u.kept) ∙ (w.kept ∙ further (length (slots new)) (omega arith)) in
          sym (take-append-drop (slot_bytes * c + length (slots new)) fin)
          ∙ (rw (s₁, s₂, append_assoc) (ap (λ (x : List ℕ). take (slot_bytes * c) old ++ x) (zeros_split (length (slots new)) (slot_bytes * (96 - c)) (omega arith) ∙ sym rest))
          ∙ take-append-drop (slot_bytes * c) old)

-- READING

module _ (s : List ℕ) (c : ℕ) (old out : List ℕ) (h : length s ≤ 32768) (x : first_zero 0 s ≡ none) where
  pub onto_table : {n : ℕ} → AddsFrom s c old out (Ok n) → Onto s c old out (Ok n)
  onto_table {n} a ms f k l =
      let b : reverse (a.added ++ reverse ms) ≡ ms ++ reverse a.added = reverse-append a.added (reverse ms) ∙ ap (λ (t : Table). t ++ reverse a.added) (reverse-reverse ms) in
      let d : length (reverse a.added) ≡ length a.added = length-reverse a.added in (
        ms ++ reverse a.added,
        fresh ms s h x ∙ (a.answer (reverse ms) (length-reverse ms ∙ l) ∙ ap table b),
        omega (arith, a.counted, length-append ms (reverse a.added), d),
        joined ms f c l old k out (reverse a.added) n (omega (arith, a.size, d)) (omega (arith, a.counted, d)) a.few a.wrote,
      )

  pub onto_refused : (e : Stopped) → AddsFrom s c old out (Err e) → (fin : List ℕ) → Wrote out fin (c * 1024) (replicate ((e.macros - c) * 1024) 0)
      → Onto s c old fin (Err e.error)
  onto_refused e a fin v ms g k l =
      let d : length (reverse a.added) ≡ length a.added = length-reverse a.added in (
        fresh ms s h x ∙ a.answer (reverse ms) (length-reverse ms ∙ l),
        restored ms g c l old k out (reverse a.added) e.macros (omega (arith, a.size, d)) (omega (arith, a.counted, d)) a.few a.wrote fin v,
      )

-- THE SAME, BY WHAT read_onto SAYS

module _ (s : List ℕ) (c : ℕ) (old out : List ℕ) (ms : Table) (a : Accepted ms) (e : form ms ≡ old) (l : length ms ≡ c) where
  pub where_read : (r : Result ℕ ReadError) → Onto s c old out r → (ks : Table) → read_onto ms s ≡ table ks → (r ≡ Ok (length ks)) × (form ks ≡ out)
  where_read (Ok n) x ks g =
      let y = x ms a e l in
      let p : read_onto ms s ≡ table y.0 = y.1 in
      let i : y.0 ≡ ks = cc in
      let j : n ≡ length ks = y.2 ∙ ap length i in
      (ap (λ (k : ℕ). Ok k) j, ap form (sym i) ∙ y.3)
  where_read (Err w) x ks g =
      let p : read_onto ms s ≡ refused_at (fault_of w.fault) w.place = (x ms a e l).0 in
      cc

  pub where_refused : (r : Result ℕ ReadError) → Onto s c old out r → (k : FileRefusal) (q : ℕ) → read_onto ms s ≡ refused_at k q
      → (f : FileFault) × (fault_of f ≡ k) × (r ≡ Err (record { fault = f; place = q })) × (out ≡ old)
  where_refused (Ok n) x k q g =
      let p : read_onto ms s ≡ table (x ms a e l).0 = (x ms a e l).1 in
      cc
  where_refused (Err w) x k q g =
      let p : read_onto ms s ≡ refused_at (fault_of w.fault) w.place = (x ms a e l).0 in
      let i : fault_of w.fault ≡ k = cc in
      let j : w.place ≡ q = cc in
      (w.fault, i, ap (λ (t : ℕ). Err (record { fault = w.fault; place = t })) j, (x ms a e l).1)

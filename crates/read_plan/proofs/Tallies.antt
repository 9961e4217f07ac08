-- The macros measured so far.
-- Assumes nothing.
use mathlib.Core.Path.{◌≡◌, refl, ap, sym, ◌∙◌}
use mathlib.Core.Bool.{false}
use mathlib.Core.List.{List, [], ◌∷◌, ◌++◌, reverse, reverse-append, reverse-reverse}
use Prim.Native.Nat.{ℕ, ◌+◌, ◌≤◌, max}
use native.Mathlib.Omega.{arith}
use native.Mathlib.Decide.{dec_le}
use lib.ListN.{length, get_or, drop, length-append, length-reverse}
use lib.Seq.{take_all}
use borrow.Author.Tests.{le-ltb}
use Rattle.macros.specs.Bounds.{most_file_bytes}
use Rattle.macros.specs.Macro.{Macro, Table, pick}
use Rattle.macros.specs.Formed.{Bytes}
use Rattle.macros.specs.Read.{read_from, read_file, read_file_by}
use Rattle.macros.specs.ReadFile.Pending.{clear}
use Rattle.macros.specs.ReadFile.Reader.{between}
use Rattle.macros.specs.ReadFile.Read.{refused_at, table}
use Rattle.macros.specs.Write.{Written, write_from, write_out}
use Rattle.macros.specs.Write.Written.{refused, file}
use Rattle.macros.specs.Accepted.{Accepted, Spellable}
use Rattle.macros.proofs.ReadOnto.{read_plain}
use Rattle.form_table.specs.Form.{slot, form}
use Rattle.plans.specs.Measure.{larger, most, macro_elements, macro_tags, size_of, measured, measure}
use Rattle.plans.specs.Measure.Measured.{takes}
use Rattle.plans.proofs.Most.{Larger, larger_is}
use Rattle.plans.proofs.Most.Larger.{first, second}
use Rattle.read_scan.specs.Scan.{fault_of}
use Rattle.read_scan.specs.declared.ReadError.{ReadError}
use Rattle.std.specs.Prelude.{None, Ok, Err}
use Rattle.read_start.specs.NextLaw.{read_on}
use Rattle.read_file.specs.File.{InSlot, NextSlot}
use Rattle.read_start.specs.Start.{WholeFile}
use Rattle.read_start.proofs.Coming.{read_next}
use Rattle.read_file.proofs.Restoring.{onto_not_plain}
use Rattle.write_file.specs.Slots.{Outcome, refusal_of}
use Rattle.write_file.specs.Contract.{meaning, reply, SomeMacro, WritesOn}
use Rattle.read_plan.specs.Elements.{slot_elements}
use Rattle.read_plan.specs.Measuring.{meant}
use Rattle.read_plan.proofs.Items.{slot_elements_lem, slot_tags_lem}
use Rattle.read_plan.proofs.Spelled.{no_zeros, next_spelled}

-- THE MOST, WITH ONE MACRO MORE BEHIND

pub larger_first : (a b : ℕ) → b ≤ a → larger a b ≡ a
unfolding larger pick
larger_first a b h = rw (le-ltb a b h) refl

pub larger_second : (a b : ℕ) → a ≤ b → larger a b ≡ b
larger_second a b h = by (larger a b) (larger_is a b)
  where
    by : (n : ℕ) → Larger a b n → n ≡ b
    by n (first l) = omega arith
    by n (second l) = refl

pub larger_max : (a b : ℕ) → max b a ≡ larger a b
larger_max a b = by (dec_le b a)
  where
    by : Dec (b ≤ a) → max b a ≡ larger a b
    by (yes i) = omega (arith, larger_first a b i)
    by (no i) = omega (arith, larger_second a b (omega arith))

larger_joins : (a b c : ℕ) → larger a (larger b c) ≡ larger (larger a b) c
larger_joins a b c = by (dec_le b a) (dec_le c b) (dec_le c a)
  where
    by : Dec (b ≤ a) → Dec (c ≤ b) → Dec (c ≤ a) → larger a (larger b c) ≡ larger (larger a b) c
    by (yes i) (yes j) k = rw (larger_first b c j, larger_first a b i) (sym (larger_first a c (omega arith)))
    by (yes i) (no j) k = rw (larger_second b c (omega arith), larger_first a b i) refl
    by (no i) (yes j) k = rw (larger_first b c j, larger_second a b (omega arith)) (sym (larger_first b c j))
    by (no i) (no j) k = rw (larger_second b c (omega arith), larger_second a b (omega arith)) (larger_second a c (omega arith) ∙ sym (larger_second b c (omega arith)))

same_larger : {a b c d : ℕ} → a ≡ b → c ≡ d → larger a c ≡ larger b d
same_larger p q = rw (p, q) refl

most_behind : (f : Macro → ℕ) (ms : Table) (m : Macro) → most f (ms ++ (m ∷ [])) ≡ larger (most f ms) (f m)
unfolding most
most_behind f [] m = larger_first (f m) 0 (omega arith) ∙ sym (larger_second 0 (f m) (omega arith))
most_behind f (k ∷ ms) m = rw (most_behind f ms m) (larger_joins (f k) (most f ms) (f m))

-- SO FAR

-- n macros with at most e elements and t tags, which are written out as w says; the file s goes on at p behind them
pub record Tally (s : List ℕ) (p n e t : ℕ) (w : Outcome) : Type 0 where
  pub macros : Table
  pub counted : n ≡ length macros
  pub elements : e ≡ most macro_elements macros
  pub tags : t ≡ most macro_tags macros
  pub written : meaning w ≡ reply (write_out macros)
  pub reads : read_file s ≡ read_from p (between false clear (reverse macros)) (drop p s)

pub tally_none : (s : List ℕ) → length s ≤ most_file_bytes → Bytes s → Tally s 0 0 0 0 (Ok 0)
unfolding most meaning reply write_out write_from read_file_by
tally_none s h g = record { macros = []; counted = refl; elements = refl; tags = refl; written = refl; reads = read_plain [] s (h, no_zeros s g) }

-- the slot is the macro's
pub slot_whole : {s old out : List ℕ} {p n q : ℕ} → length out ≡ 1024 → (m : InSlot s p n 0 old out q) → slot m.itself ≡ out
slot_whole {out = out} h m =
    let z : 0 + length (slot m.itself) ≡ 1024 = omega (arith, m.size) in
    sym (rw z at m.wrote.written) ∙ take_all 1024 out (omega arith)

module _ (s : List ℕ) (h : length s ≤ most_file_bytes) (g : Bytes s) (p n e t : ℕ) (w : Outcome) (x : Tally s p n e t w) where
  at_place : length (reverse x.macros) ≡ n
  at_place = length-reverse x.macros ∙ sym x.counted

  module _ {old out : List ℕ} {q : ℕ} (m : InSlot s p n 0 old out q) (l : length out ≡ 1024) where
    spelled : Spellable m.itself
    spelled = next_spelled s h g p (reverse x.macros) q m.itself (m.exact (reverse x.macros) at_place)

    pub some_macro : SomeMacro out
    some_macro = (m.itself, spelled, slot_whole l m)

    pub tally_more : {e' t' : ℕ} {w' : Outcome} → e' ≡ larger e (slot_elements out) → t' ≡ larger t (get_or out 1 0) → WritesOn w out w' → Tally s q (n + 1) e' t' w'
    unfolding read_on
    tally_more a b c =
        let ks : Table = x.macros ++ (m.itself ∷ []) in
        let i = slot_whole l m in
        let j : slot_elements out ≡ macro_elements m.itself = ap slot_elements (sym i) ∙ slot_elements_lem m.itself in
        let k : get_or out 1 0 ≡ macro_tags m.itself = ap (λ (v : List ℕ). get_or v 1 0) (sym i) ∙ slot_tags_lem m.itself in
        record {
          macros = ks;
          counted = omega (arith, x.counted, length-append x.macros (m.itself ∷ []));
          elements = a ∙ (same_larger x.elements j ∙ sym (most_behind macro_elements x.macros m.itself));
          tags = b ∙ (same_larger x.tags k ∙ sym (most_behind macro_tags x.macros m.itself));
          written = c x.macros m.itself spelled i x.written;
          reads =
              x.reads
              ∙ (read_next s p (reverse x.macros)
              ∙ (ap (read_on s (reverse x.macros)) (m.exact (reverse x.macros) at_place) ∙ rw (reverse-append x.macros (m.itself ∷ [])) refl));
        }

  -- THE FILE'S END

  size_of_lem : (v : Outcome) (u : Written) → meaning v ≡ reply u → measured (table x.macros) ≡ takes (length x.macros) (most macro_elements x.macros) (most macro_tags x.macros) (size_of u)
      → meant (Ok (record { macros = n; elements = e; tags = t; written = v })) ≡ measured (table x.macros)
  unfolding meaning reply size_of
  size_of_lem (Ok b) (file u) f i =
      let z : b ≡ length u = cc in
      sym (i ∙ rw (x.counted, x.elements, x.tags, z) refl)
  size_of_lem (Ok b) (refused c k) f i = cc
  size_of_lem (Err d) (file u) f i = cc
  size_of_lem (Err d) (refused c j) f i =
      let z : refusal_of d.fault ≡ c = cc in
      let v : d.place ≡ j = cc in
      sym (i ∙ rw (x.counted, x.elements, x.tags, z, v) refl)

  pub tally_ended : {old out : List ℕ} → NextSlot s p n 0 old out (Ok None) → meant (Ok (record { macros = n; elements = e; tags = t; written = w })) ≡ measure s
  unfolding read_on measure measured
  tally_ended z =
      let v : read_file s ≡ table x.macros =
      x.reads ∙ (read_next s p (reverse x.macros) ∙ (ap (read_on s (reverse x.macros)) (z.1 (reverse x.macros) at_place) ∙ ap table (reverse-reverse x.macros))) in
      size_of_lem w (write_out x.macros) x.written refl ∙ ap measured (sym v)

  pub tally_refused : {old out : List ℕ} (d : ReadError) → NextSlot s p n 0 old out (Err d) → meant (Err d) ≡ measure s
  unfolding read_on measure measured
  tally_refused d z =
      let v : read_file s ≡ refused_at (fault_of d.fault) d.place =
      x.reads ∙ (read_next s p (reverse x.macros) ∙ ap (read_on s (reverse x.macros)) (z.1 (reverse x.macros) at_place)) in
      ap measured (sym v)

-- A FILE THAT IS REFUSED AS A WHOLE

none_accepted : Accepted []
none_accepted = record { count = omega arith; macros = tt }

pub whole_refused : (s : List ℕ) (e : ReadError) → WholeFile s (Err e) → meant (Err e) ≡ measure s
unfolding measure measured read_file_by
whole_refused s e x =
    let o = onto_not_plain s 0 (form []) e x in
    ap measured (sym (o [] none_accepted refl refl).0)

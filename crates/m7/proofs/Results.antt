-- What the calls below say, taken to the results of the contracts.
use Prim.Native.Nat.{ℕ, ◌-◌, ◌*◌, ◌≤◌}
use mathlib.Core.Path.{◌≡◌, refl, sym, ap, subst, ◌∙◌}
use mathlib.Core.Bool.{true, false}
use mathlib.Core.List.{List, []}
use native.Mathlib.Omega.{arith}
use borrow.Author.Tests.{eq-eqb, ne_eqb}
use mir.Syntax.{w8}
use mir.Val.{Fits}
use lib.Dec.{eqb}
use lib.ListN.{length, get_or, replicate}
use Rattle.macros.specs.Bounds.{most_file_bytes, most_macros, most_entry_bytes}
use Rattle.macros.specs.Refusals.{FileRefusal, number, place, host_number, file_number}
use Rattle.macros.specs.Refusals.FileRefusal.{file_too_long, zero_byte, incomplete, bad_class, no_unit, bad_brace, bad_call, no_element, macro_too_long, too_many_macros}
use Rattle.macros.specs.Macro.{Table, pick}
use Rattle.macros.specs.Formed.{Octets}
use Rattle.macros.specs.Read.{Read, read_file, read_onto, read_file_by}
use Rattle.macros.specs.ReadFile.Read.{refused_at, table}
use Rattle.macros.specs.Write.{Written, write_out}
use Rattle.macros.specs.Write.Written.{refused, file}
use Rattle.macros.specs.Accepted.{Accepted}
use Rattle.macros.proofs.Laws.{read_keeps}
use Rattle.form_table.specs.Form.{slot_bytes, table_bytes, slots, form}
use Rattle.form_table.specs.Check.{checks}
use Rattle.form_table.proofs.Basics.{clash, and_both}
use Rattle.form_table.proofs.Tables.{check_exact}
use Rattle.lines.specs.State.{fresh}
use Rattle.form_state.specs.Form.{state_bytes, state_form}
use Rattle.form_state.proofs.Held.{octets_of}
use Rattle.read_scan.specs.Scan.{fault_of}
use Rattle.read_file.specs.File.{Lent, Onto}
use Rattle.read_scan.specs.declared.ReadError.{ReadError}
use Rattle.write_file.specs.Contract.{Reply, meaning, laid_out, SomeTable, WritesOut}
use Rattle.write_file.specs.Contract.{reply as reply_of}
use Rattle.write_file.specs.Contract.Reply.{size, refusal}
use Rattle.write_file.specs.Slots.{Outcome, refusal_of, Holds}
use Rattle.write_file.specs.declared.WriteError.{WriteError}
use Rattle.std.specs.Prelude.{Ok, Err}
use Rattle.line_memory.specs.Memory.{IsTable}
use Rattle.line_answer.specs.declared.Answer.{Answer}
use Rattle.line_answer.specs.Replies.{reply}
use Rattle.m7.specs.Contract.{Result, Gives, refuses, takes, of_reading, reads, of_writing, sized, Writes, freshens}
use Rattle.m7.proofs.Places.{onto_place, extent, out_extent}

gives : {w v : Result} {a : Answer} {b : List ℕ} → w ≡ v → a ≡ v.answer → b ≡ v.memory → Gives w a b
gives e f g = record { answers = f ∙ sym (ap (λ (x : Result). x.answer) e); holds = g ∙ sym (ap (λ (x : Result). x.memory) e) }

-- the bytes of a slice
pub octets_given : (t : List ℕ) → ((i : ℕ) → Fits w8 (get_or t i 0)) → Octets t
octets_given t h = octets_of t (λ i. omega (arith, h i))

-- READING

-- a table without macros is accepted, and its form is zeros
none_accepted : Accepted []
none_accepted = record { count = omega arith; macros = tt }

none_form : form [] ≡ replicate 98304 0
unfolding form slots
none_form = ap (λ (k : ℕ). replicate k 0) (let e : slot_bytes * (most_macros - 0) ≡ 98304 = omega arith in e)

pub reads_sized : (s old : List ℕ) → length old ≡ table_bytes → reads s old ≡ of_reading old (read_file s)
unfolding reads pick
reads_sized s old h = rw (eq-eqb _ _ h)

pub read_other : (s old : List ℕ) {a : Answer} → (length old ≡ table_bytes → ⊥) → a ≡ reply 3 0 0 → Gives (reads s old) a old
unfolding reads pick refuses number place host_number
read_other s old h e = let f : eqb (length old) table_bytes ≡ false = ne_eqb _ _ h in gives (rw f) e refl

pub zero_lent : {z : List ℕ} → z ≡ replicate 98304 0 → Lent z 0
zero_lent e = record { itself = []; accepted = none_accepted; bytes = none_form ∙ sym e; counted = refl }

-- a file s read onto the zero table
module _ (s z made : List ℕ) (zeros : z ≡ replicate 98304 0) where
  -- a table of n macros
  module _ {n : ℕ} (given : Onto s 0 z made (Ok n)) where
    onto : (ks : Table) × (read_onto [] s ≡ table ks) × (n ≡ length ks) × (form ks ≡ made)
    onto = given [] none_accepted (none_form ∙ sym zeros) refl

    pub read_few : Octets s → n ≤ most_file_bytes
    read_few o = let k = (read_keeps [] s onto.0 none_accepted o onto.1).accepted.count in let f = onto.2 in omega arith

    pub read_taken : (old : List ℕ) {a : Answer} {b : List ℕ} → length old ≡ table_bytes → b ≡ made → a ≡ reply 0 0 n → Gives (reads s old) a b
    unfolding read_file_by of_reading takes
    read_taken old l f g = gives (reads_sized s old l ∙ ap (of_reading old) onto.1) (g ∙ ap (reply 0 0) onto.2) (f ∙ sym onto.3)

  -- a refusal with its place
  module _ (e : ReadError) (given : Onto s 0 z made (Err e)) where
    not_read : read_onto [] s ≡ refused_at (fault_of e.fault) e.place
    not_read = (given [] none_accepted (none_form ∙ sym zeros) refl).0

    pub read_place : e.place ≤ most_file_bytes
    read_place = onto_place most_entry_bytes [] s not_read

    pub read_refused : (old : List ℕ) {a : Answer} {k : ℕ} → length old ≡ table_bytes → k ≡ file_number (fault_of e.fault) → a ≡ reply k e.place 0 → Gives (reads s old) a old
    unfolding read_file_by of_reading refuses number place
    read_refused old l g h = gives (reads_sized s old l ∙ ap (of_reading old) not_read) (h ∙ ap (λ (k : ℕ). reply k e.place 0) g) refl

-- a call that is answered with 0 has made a table
pub not_zero : (f : FileRefusal) → file_number f ≡ 0 → ⊥
unfolding file_number
not_zero file_too_long e = omega arith
not_zero zero_byte e = omega arith
not_zero incomplete e = omega arith
not_zero bad_class e = omega arith
not_zero no_unit e = omega arith
not_zero bad_brace e = omega arith
not_zero bad_call e = omega arith
not_zero no_element e = omega arith
not_zero macro_too_long e = omega arith
not_zero too_many_macros e = omega arith

module _ (s old : List ℕ) (o : Octets s) {a : Answer} {b : List ℕ} (z : a.number ≡ 0) where
  of_read : (w : Read) → read_file s ≡ w → Gives (of_reading old w) a b → (ms : Table) × IsTable b ms
  unfolding read_file_by of_reading refuses takes reply number
  of_read (refused_at f p) e g = absurd (not_zero f (sym (ap (λ (x : Answer). x.number) g.answers) ∙ z))
  of_read (table ms) e g = (ms, record { accepted = (read_keeps [] s ms none_accepted o e).accepted; form = sym g.holds })

  pub read_is_table : length old ≡ table_bytes → Gives (reads s old) a b → (ms : Table) × IsTable b ms
  read_is_table l g = of_read (read_file s) refl (subst (λ (w : Result). Gives w a b) (reads_sized s old l) g)

-- WRITING OUT

-- an answer of the writer, and 01's
unfoldable answer_of : Reply → Answer
answer_of (size n) = reply 0 0 n
answer_of (refusal f p) = reply (file_number f) p 0

told : (old : List ℕ) (w : Written) → answer_of (reply_of w) ≡ (of_writing old w).answer
unfolding answer_of reply_of of_writing takes refuses number place
told old (refused f p) = refl
told old (file s) = refl

laid : (old : List ℕ) (w : Written) → laid_out w old ≡ (of_writing old w).memory
unfolding laid_out of_writing takes refuses
laid old (refused f p) = refl
laid old (file s) = refl

-- a place, or a length
unfoldable size_in : Reply → ℕ
size_in (size n) = n
size_in (refusal f p) = p

size_extent : (w : Written) → size_in (reply_of w) ≡ extent w
unfolding size_in reply_of extent
size_extent (refused f p) = refl
size_extent (file s) = refl

module _ (t old : List ℕ) where
  pub other_table : (length t ≡ table_bytes → ⊥) → sized t old ≡ false
  unfolding sized
  other_table h = let e : eqb (length t) table_bytes ≡ false = ne_eqb _ _ h in rw e

  pub other_file : length t ≡ table_bytes → (length old ≡ most_file_bytes → ⊥) → sized t old ≡ false
  unfolding sized
  other_file g h = let e : eqb (length old) most_file_bytes ≡ false = ne_eqb _ _ h in let f : eqb (length t) table_bytes ≡ true = eq-eqb _ _ g in rw (f, e)

  both_sized : length t ≡ table_bytes → length old ≡ most_file_bytes → sized t old ≡ true
  unfolding sized
  both_sized g h = and_both (eq-eqb _ _ g) (eq-eqb _ _ h)

  -- 3
  pub write_other : {a : Answer} → sized t old ≡ false → a ≡ reply 3 0 0 → Writes t old a old
  unfolding refuses number place host_number
  write_other z e =
      record {
        other_size = λ y. gives refl e refl;
        no_table = λ y. clash y z;
        written = λ y. clash y z;
      }

  module _ (g : length t ≡ table_bytes) (h : length old ≡ most_file_bytes) (o : Octets t) where
    -- 1
    pub write_none : {a : Answer} → checks t ≡ false → a ≡ reply 1 0 0 → Writes t old a old
    unfolding refuses number place host_number
    write_none z e =
        record {
          other_size = λ y. clash (both_sized g h) y;
          no_table = λ y n. gives refl e refl;
          written = λ y ms f. clash ((check_exact t o).1 (ms, f.accepted, f.form)) z;
        }

    pub some_table : checks t ≡ true → SomeTable t
    some_table z = let s = (check_exact t o).0 z in (s.0, (s.1, s.2))

    module _ (z : checks t ≡ true) {b : List ℕ} {r : Outcome} (w : WritesOut t old b r) where
      write_fits : size_in (meaning r) ≤ most_file_bytes
      write_fits = let s = some_table z in let e = ap size_in (w.answers s.0 s.1) ∙ size_extent (write_out s.0) in omega (arith, out_extent s.0)

      write_gives : {a : Answer} → a ≡ answer_of (meaning r) → Writes t old a b
      write_gives e =
          record {
            other_size = λ y. clash (both_sized g h) y;
            no_table = λ y n. let s = some_table z in absurd (n s.0 (record { accepted = s.1.0; form = s.1.1 }));
            written = λ y ms f. let k : Holds t ms = (f.accepted, f.form) in record { answers = e ∙ ap answer_of (w.answers ms k) ∙ told old (write_out ms); holds = w.holds ms k ∙ laid old (write_out ms) };
          }

      pub write_size : {n : ℕ} → r ≡ Ok n → n ≤ most_file_bytes
      unfolding size_in meaning
      write_size e = subst (λ (x : Outcome). size_in (meaning x) ≤ most_file_bytes) e write_fits

      pub write_place : {f : WriteError} → r ≡ Err f → f.place ≤ most_file_bytes
      unfolding size_in meaning
      write_place e = subst (λ (x : Outcome). size_in (meaning x) ≤ most_file_bytes) e write_fits

      pub write_taken : {n : ℕ} {a : Answer} → r ≡ Ok n → a ≡ reply 0 0 n → Writes t old a b
      unfolding answer_of meaning
      write_taken e f = write_gives (f ∙ ap (λ (x : Outcome). answer_of (meaning x)) (sym e))

      pub write_refused : {f : WriteError} {k : ℕ} {a : Answer} → r ≡ Err f → k ≡ file_number (refusal_of f.fault) → a ≡ reply k f.place 0 → Writes t old a b
      unfolding answer_of meaning
      write_refused {f = f} e n g = write_gives (g ∙ ap (λ (x : ℕ). reply x f.place 0) n ∙ ap (λ (x : Outcome). answer_of (meaning x)) (sym e))

-- THE FRESH STATE

pub fresh_other : (old : List ℕ) {a : Answer} → (length old ≡ state_bytes → ⊥) → a ≡ reply 3 0 0 → Gives (freshens old) a old
unfolding freshens pick refuses number place host_number
fresh_other old h e = let f : eqb (length old) state_bytes ≡ false = ne_eqb _ _ h in gives (rw f) e refl

pub fresh_stored : (old : List ℕ) {a : Answer} {b : List ℕ} → length old ≡ state_bytes → b ≡ state_form fresh → a ≡ reply 0 0 0 → Gives (freshens old) a b
unfolding freshens pick takes
fresh_stored old h g e = let f : eqb (length old) state_bytes ≡ true = eq-eqb _ _ h in gives (rw f) e g

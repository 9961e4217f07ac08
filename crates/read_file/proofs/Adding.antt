-- The macros of a file, each in its slot behind those before it.
-- Assumes nothing.
use mathlib.Core.Path.{◌≡◌, refl, ap, sym, ◌∙◌}
use mathlib.Core.Bool.{false}
use Rattle.std.specs.Prelude.{Some, None, Ok, Err}
use mathlib.Core.List.{List, [], ◌∷◌, ◌++◌, reverse, reverse-cons, append_assoc, append-nil}
use Prim.Native.Nat.{ℕ, ◌+◌, ◌*◌, ◌≤◌, ◌<◌}
use native.Mathlib.Omega.{arith}
use lib.ListN.{length, take, drop, length-append}
use borrow.Author.Tests.{le-ltb, lt-ltb}
use Rattle.macros.specs.Refusals.FileRefusal.{too_many_macros}
use Rattle.macros.specs.Macro.{Macro, Table, pick}
use Rattle.macros.specs.Read.{Read, no_calls, read_from}
use Rattle.macros.specs.ReadFile.Pending.{clear}
use Rattle.macros.specs.ReadFile.Reader.{between}
use Rattle.form_table.specs.Form.{slot_bytes, body, slot, slots}
use Rattle.form_items.specs.Items.{Wrote}
use Rattle.form_table.proofs.Actions.{slot_length}
use Rattle.read_scan.specs.Scan.{MacroRead, fault_of}
use Rattle.read_scan.specs.Scan.MacroRead.{refused_at as none_at, pattern_to, macro_to as one_to}
use Rattle.read_start.specs.Next.{next_from}
use Rattle.read_start.specs.Next.Coming.{refused_at}
use Rattle.read_start.specs.NextLaw.{read_on}
use Rattle.read_file.specs.File.{slot_of}
use Rattle.read_macro.specs.OneMacro.{ended, macro_at, Macroed, used_bytes}
use Rattle.read_start.specs.Start.{started, started_behind, comes, Seeks}
use Rattle.read_file.specs.File.{InSlot, NextSlot, Adds, AddsFrom}
use Rattle.read_scan.specs.declared.ReadError.{ReadError}
use Rattle.read_scan.specs.declared.FileFault.TheVariants.{TooManyMacros}
use Rattle.read_macro.specs.declared.Head.{Head}
use Rattle.form_items.proofs.Writing.{wrote_none, wrote_behind}
use Rattle.read_start.proofs.Coming.{read_next}

-- SLOTS

pub slots_append : (xs ys : Table) → slots (xs ++ ys) ≡ slots xs ++ slots ys
unfolding slots
slots_append [] ys = refl
slots_append (x ∷ xs) ys = rw (slots_append xs ys) (sym (append_assoc (slot x) (slots xs) (slots ys)))

slots_last : (m : Macro) (xs : Table) → slots (reverse (m ∷ xs)) ≡ slots (reverse xs) ++ slot m
unfolding slots
slots_last m xs = rw (reverse-cons m xs) (slots_append (reverse xs) (m ∷ []) ∙ rw (append-nil (slot m)) refl)

-- the slot that is stored is the macro's
its_slot : {s : List ℕ} {a p q : ℕ} {old out : List ℕ} {h : Head} (m : Macroed s a p q old out h) → slot_of h out ≡ slot m.itself
unfolding slot
its_slot {out = out} {h = h} m =
    let z : 0 + length (body m.itself) ≡ used_bytes h = omega (arith, m.size) in
    let b : take (used_bytes h) out ≡ body m.itself = rw z at m.wrote.written in
    rw (b, m.head, m.size) refl

-- ADDED

pub adds_none : (s : List ℕ) (c : ℕ) (old : List ℕ) → c ≤ 96 → Adds s c old old c (λ ms. read_from 0 (between false clear ms) (drop 0 s))
unfolding slots
adds_none s c old h =
    record { added = []; counted = omega arith; few = h; size = omega arith; wrote = wrote_none old (slot_bytes * c); answer = λ ms e. refl }

adds_then : {s : List ℕ} {c : ℕ} {old out : List ℕ} {n : ℕ} {F G : List Macro → Read} → Adds s c old out n F → ((l : List Macro) → length l ≡ n → F l ≡ G l) → Adds s c old out n G
adds_then x g =
    record {
      added = x.added;
      counted = x.counted;
      few = x.few;
      size = x.size;
      wrote = x.wrote;
      answer = λ ms e. x.answer ms e ∙ g (x.added ++ ms) (length-append x.added ms ∙ omega (arith, x.counted));
    }

-- THE NEXT MACRO

-- whether it is known where its pattern ends or not
comes_ended : (o : MacroRead) → comes o ≡ comes (ended o)
unfolding comes ended
comes_ended (none_at c q) = refl
comes_ended (pattern_to q ps o) = comes_ended o
comes_ended (one_to q m) = refl

-- one of the first 96
few : (s : List ℕ) (a v : ℕ) (ms : List Macro) → length ms < 96 → started_behind s a v ms ≡ comes (macro_at s a v ms)
unfolding started_behind macro_at pick
few s a v ms h = rw (lt-ltb _ _ h) (comes_ended (started s a v (no_calls ms)))

-- the 97th
full : (s : List ℕ) (a v : ℕ) (ms : List Macro) → 96 ≤ length ms → started_behind s a v ms ≡ refused_at too_many_macros a
unfolding started_behind pick
full s a v ms h = rw (le-ltb _ _ h) refl

module _ (s : List ℕ) (at n base : ℕ) (old : List ℕ) where
  -- a file that ends in a skip
  pub slot_skipping : (e : ReadError) → Seeks s at (Err e) → NextSlot s at n base old old (Err e)
  slot_skipping e z = (refl, λ ms l. rw (z.0, z.1) (z.2 ms))

  module _ {a q : ℕ} (y : Seeks s at (Ok (Some (a, q)))) where
    pub slot_full : 96 ≤ n → NextSlot s at n base old old (Err (record { fault = TooManyMacros; place = a }))
    slot_full h = (refl, λ ms l. y.3 ms ∙ full s a q ms (omega arith))

    pub slot_fault : (e : ReadError) → n < 96 → ((ms : List Macro) → macro_at s a q ms ≡ none_at (fault_of e.fault) e.place) → NextSlot s at n base old old (Err e)
    unfolding comes
    slot_fault e h d = (refl, λ ms l. y.3 ms ∙ (few s a q ms (omega arith) ∙ ap comes (d ms)))

    pub slot_made : {old₂ mid fin : List ℕ} {v : ℕ} {head : Head} → n < 96 → Macroed s a q v old₂ mid head → Wrote old fin base (slot_of head mid)
        → NextSlot s at n base old fin (Ok (Some v))
    unfolding comes
    slot_made h m w =
        record {
          itself = m.itself;
          exact = λ ms j. y.3 ms ∙ (few s a q ms (omega arith) ∙ ap comes (m.exact ms));
          wrote = rw (its_slot m) at w;
          size = slot_length m.itself (omega (arith, m.size, m.fits));
          few = h;
          further = omega (arith, y.0, y.1, m.further);
          reached = m.reached;
        }

-- ONE MACRO MORE

module _ (s : List ℕ) (c : ℕ) (old out : List ℕ) (n at : ℕ) (x : Adds s c old out n (λ ms. read_from at (between false clear ms) (drop at s))) (fin : List ℕ) where
  next : Adds s c old out n (λ ms. read_on s ms (next_from s at ms))
  next = adds_then x (λ l e. read_next s at l)

  pub adds_ended : NextSlot s at n (n * 1024) out fin (Ok None) → AddsFrom s c old fin (Ok n)
  unfolding read_on
  adds_ended z = rw z.0 (adds_then next (λ l e. ap (read_on s l) (z.1 l e)))

  pub adds_refused : (e : ReadError) → NextSlot s at n (n * 1024) out fin (Err e) → AddsFrom s c old fin (Err (record { error = e; macros = n }))
  unfolding read_on
  adds_refused e z = rw z.0 (adds_then next (λ l e. ap (read_on s l) (z.1 l e)))

  pub adds_more : {q : ℕ} → InSlot s at n (n * 1024) out fin q → Adds s c old fin (n + 1) (λ ms. read_from q (between false clear ms) (drop q s))
  unfolding read_on
  adds_more m =
      let p : n * 1024 ≡ slot_bytes * c + length (slots (reverse x.added)) = omega (arith, x.size, x.counted) in
      record {
        added = m.itself ∷ x.added;
        counted = omega (arith, x.counted);
        few = omega (arith, m.few);
        size = rw (slots_last m.itself x.added, length-append) (omega (arith, m.size, x.size));
        wrote = rw (slots_last m.itself x.added) (wrote_behind x.wrote p m.wrote);
        answer = λ ms e. x.answer ms e ∙ (read_next s at (x.added ++ ms) ∙ ap (read_on s (x.added ++ ms)) (m.exact (x.added ++ ms) (omega (arith, length-append x.added ms, x.counted))));
      }

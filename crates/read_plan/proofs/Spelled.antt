-- A macro that was read out of a file has a spelling.
-- Assumes nothing.
use mathlib.Core.Path.{◌≡◌, refl, ap, sym, ◌∙◌, subst}
use mathlib.Core.Bool.{Bool, true, false}
use mathlib.Core.List.{List, [], ◌∷◌, ◌++◌, reverse, reverse-cons, reverse-reverse, append-nil}
use mathlib.Core.Option.{none, some}
use Prim.Native.Nat.{ℕ, zero, suc, ◌≤◌}
use native.Mathlib.Omega.{arith}
use lib.Dec.{eqb}
use lib.ListN.{length, get_or, drop, length-append, length-drop}
use lib.Seq.{drop_at}
use borrow.Author.Tests.{eqb-false}
use Rattle.macros.specs.Bounds.{most_file_bytes}
use Rattle.macros.specs.Refusals.{FileRefusal}
use Rattle.macros.specs.Macro.{Macro, pick}
use Rattle.macros.specs.Formed.{Byte, Bytes, Octets}
use Rattle.macros.specs.Read.{Part, Pending, Prior, Reader, Next, step, at_end, read_from_by, read_onto, first_zero, no_calls}
use Rattle.macros.specs.ReadFile.Pending.{clear}
use Rattle.macros.specs.ReadFile.Reader.{between, inside}
use Rattle.macros.specs.ReadFile.Next.{go}
use Rattle.macros.specs.ReadFile.Read.{table}
use Rattle.macros.specs.FirstFault.{NoZero}
use Rattle.macros.specs.Accepted.{Each, Spellable}
use Rattle.macros.proofs.Pending.{after, after_go, read_after}
use Rattle.macros.proofs.ReadOnto.{read_plain}
use Rattle.macros.proofs.Paid.{SpelledIn, produced}
use Rattle.read_start.specs.Next.{ends_at, onward, next_by, next_from}
use Rattle.read_start.specs.Next.Coming.{macro_to, refused_at, no_more}
use Rattle.read_start.proofs.Coming.{Steps, between_steps, Inner, inside_steps}
use Rattle.read_start.proofs.Coming.Steps.{stays, enters, refuses, refuses_before}
use Rattle.read_start.proofs.Coming.Inner.{keeps, leaves, stops}

-- BYTES

pub bytes_of : (s : List ℕ) (p : ℕ) → ((i : ℕ) → get_or s i 0 ≤ 255) → first_zero p s ≡ none → Bytes s
unfolding first_zero
bytes_of [] p h e = tt
bytes_of (b ∷ s) p h e = by (eqb b 0) refl e (λ f. bytes_of s (suc p) (λ i. h (suc i)) f)
  where
    by : (x : Bool) → eqb b 0 ≡ x → pick x (some p) (first_zero (suc p) s) ≡ none → (first_zero (suc p) s ≡ none → Bytes s) → Byte b × Bytes s
    by true f g ih = unfold pick in let z : ◌≡◌ {A = ℕ} 0 1 = cc in absurd (omega arith)
    by false f g ih = unfold pick in let l : b ≤ 255 = h 0 in (omega (arith, eqb-false b 0 f), ih g)

bytes_drop : (p : ℕ) (s : List ℕ) → Bytes s → Bytes (drop p s)
bytes_drop zero s g = g
bytes_drop (suc p) [] g = tt
bytes_drop (suc p) (b ∷ s) g = bytes_drop p s g.1

bytes_front : (u v : List ℕ) → Bytes (u ++ v) → Bytes u
bytes_front [] v g = tt
bytes_front (b ∷ u) v g = (g.0, bytes_front u v g.1)

octets : (s : List ℕ) → Bytes s → Octets s
octets [] g = tt
octets (b ∷ s) g = (g.0.1, octets s g.1)

pub no_zeros : (s : List ℕ) → Bytes s → NoZero s
no_zeros [] g = tt
no_zeros (b ∷ s) g = (g.0.0, no_zeros s g.1)

-- UP TO THE END OF THE NEXT MACRO

abbrev before : Reader → List Macro
before (between k a ms) = ms
before (inside k n st pr) = pr.macros

-- the bytes u up to that end lead to the reader behind it
record Read (r : Reader) (bs : List ℕ) (m : Macro) : Type 0 where
  upto : List ℕ
  rest : List ℕ
  split : bs ≡ upto ++ rest
  comes : after r upto ≡ go (between false clear (m ∷ before r))

same_macro : {p q : ℕ} {m k : Macro} → macro_to p m ≡ macro_to q k → m ≡ k
same_macro e = cc

not_refused : {A : Type 0} {c : FileRefusal} {p q : ℕ} {m : Macro} → refused_at c p ≡ macro_to q m → A
not_refused e = let z : ◌≡◌ {A = ℕ} 0 1 = cc in absurd (omega arith)

not_ended : {A : Type 0} {q : ℕ} {m : Macro} → no_more ≡ macro_to q m → A
not_ended e = let z : ◌≡◌ {A = ℕ} 0 1 = cc in absurd (omega arith)

one_more : {r r' : Reader} {b : ℕ} {bs : List ℕ} {m : Macro} → step r b ≡ go r' → before r' ≡ before r → Read r' bs m → Read r (b ∷ bs) m
one_more {r} {r'} {b} {bs} {m} e f x =
    record {
      upto = b ∷ x.upto;
      rest = x.rest;
      split = ap (λ (l : List ℕ). b ∷ l) x.split;
      comes = after_go r r' b x.upto e ∙ (x.comes ∙ ap (λ (l : List Macro). go (between false clear (m ∷ l))) f);
    }

inside_read : (bs : List ℕ) (p : ℕ) (k : Bool) (n : ℕ) (st : Part) (pr : Prior) (q : ℕ) (m : Macro) → next_by p (inside k n st pr) bs ≡ macro_to q m → Read (inside k n st pr) bs m
unfolding next_by ends_at after
inside_read [] p k n st pr q m e = not_refused e
inside_read (b ∷ bs) p k n st pr q m e = by (step (inside k n st pr) b) (inside_steps k n st pr b) refl e (λ i j z r f. inside_read bs (suc p) i j z r q m f)
  where
    by : (x : Next) → Inner pr.macros x → step (inside k n st pr) b ≡ x → onward (inside k n st pr) p (λ r. next_by (suc p) r bs) x ≡ macro_to q m
        → ((i : Bool) (j : ℕ) (z : Part) (r : Prior) → next_by (suc p) (inside i j z r) bs ≡ macro_to q m → Read (inside i j z r) bs m)
        → Read (inside k n st pr) (b ∷ bs) m
    by x (keeps i j z r h) f g ih = one_more f h (ih i j z r g)
    by x (leaves l) f g ih =
        record {
          upto = b ∷ [];
          rest = bs;
          split = refl;
          comes = after_go (inside k n st pr) _ b [] f ∙ ap (λ (o : Macro). go (between false clear (o ∷ pr.macros))) (same_macro g);
        }
    by x (stops c) f g ih = not_refused g

between_read : (bs : List ℕ) (p : ℕ) (k : Bool) (a : Pending) (ms : List Macro) (q : ℕ) (m : Macro) → next_by p (between k a ms) bs ≡ macro_to q m → Read (between k a ms) bs m
unfolding next_by ends_at
between_read [] p true a ms q m e = unfold pick in not_refused e
between_read [] p false a ms q m e = unfold pick in not_ended e
between_read (b ∷ bs) p k a ms q m e = by (step (between k a ms) b) (between_steps k a ms b) refl e (λ i w f. between_read bs (suc p) i w ms q m f)
  where
    by : (x : Next) → Steps ms x → step (between k a ms) b ≡ x → onward (between k a ms) p (λ r. next_by (suc p) r bs) x ≡ macro_to q m
        → ((i : Bool) (w : Pending) → next_by (suc p) (between i w ms) bs ≡ macro_to q m → Read (between i w ms) bs m)
        → Read (between k a ms) (b ∷ bs) m
    by x (stays i w) f g ih = one_more f refl (ih i w g)
    by x (enters i n st) f g ih = one_more f refl (inside_read bs (suc p) i n st (no_calls ms) q m g)
    by x (refuses c) f g ih = not_refused g
    by x (refuses_before c n) f g ih = not_refused g

-- THOSE BYTES ALONE, onto the macros before it
module _ (s : List ℕ) (h : length s ≤ most_file_bytes) (g : Bytes s) (p : ℕ) (ms : List Macro) (q : ℕ) (m : Macro) (e : next_from s p ms ≡ macro_to q m) where
  found : Read (between false clear ms) (drop p s) m
  unfolding next_from
  found = between_read (drop p s) p false clear ms q m e

  alone : Bytes found.upto
  alone = bytes_front found.upto found.rest (subst Bytes found.split (bytes_drop p s g))

  short : length found.upto ≤ most_file_bytes
  short = omega (arith, length-drop p s, ap length found.split, length-append found.upto found.rest)

  read_alone : read_onto (reverse ms) found.upto ≡ table (reverse ms ++ (m ∷ []))
  unfolding read_from_by at_end pick
  read_alone =
      let a = read_after found.upto [] 0 (between false clear ms) (between false clear (m ∷ ms)) found.comes in
      read_plain (reverse ms) found.upto (short, no_zeros found.upto alone)
      ∙ (rw (reverse-reverse ms) (rw (append-nil found.upto) at a) ∙ ap table (reverse-cons m ms))

  pub next_spelled : Spellable m
  next_spelled =
      let x = produced (reverse ms) found.upto (reverse ms ++ (m ∷ [])) (octets found.upto alone) read_alone in
      let y : x.new ≡ m ∷ [] =
      sym (drop_at (reverse ms) x.new (length (reverse ms)) refl)
      ∙ (ap (drop (length (reverse ms))) (sym x.behind) ∙ drop_at (reverse ms) (m ∷ []) (length (reverse ms)) refl)
      in
      let z : Each (SpelledIn (length found.upto)) (m ∷ []) = subst (Each (SpelledIn (length found.upto))) y x.each in
      (z.0.formed, z.0.short)

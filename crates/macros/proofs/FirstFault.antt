-- The promise of specs/FirstFault.antt, proved.
use mathlib.Core.Path.{refl, subst, sym, ◌∙◌, ◌≡◌}
use mathlib.Core.Bool.{Bool, false, true}
use mathlib.Core.Logic.{◌⊎◌, inl, inr}
use mathlib.Core.List.{◌++◌, List, [], append_assoc, reverse, ◌∷◌}
use mathlib.Core.Option.{Option, none, some}
use Prim.Native.Nat.{◌+◌, ◌-◌, suc, ℕ, ◌≤◌}
use native.Mathlib.Nat.{zero-add}
use native.Mathlib.Omega.{arith}
use lib.ListN.{length, length-append, take}
use lib.Dec.{ltb}
use borrow.Author.Tests.{le-ltb, ne_eqb}
use Rattle.macros.specs.Bounds.{most_file_bytes, most_macro_bytes}
use Rattle.macros.specs.Refusals.{FileRefusal, file_number}
use Rattle.macros.specs.Refusals.FileRefusal.{file_too_long, macro_too_long, too_many_macros, zero_byte}
use Rattle.macros.specs.Macro.{Table, pick}
use Rattle.macros.specs.Begins.{call_sign}
use Rattle.macros.specs.Read.{Next, Read, Reader, at_end, first_zero, read_from, read_onto, step, read_from_by, read_onto_by}
use Rattle.macros.specs.ReadFile.Pending.{clear}
use Rattle.macros.specs.ReadFile.Reader.{between, inside}
use Rattle.macros.specs.ReadFile.Next.{go, refuse, refuse_before}
use Rattle.macros.specs.ReadFile.Read.{refused_at, table}
use Rattle.macros.specs.FirstFault.{FaultByItsBytes, NoZero, Plain, RestsOn}
use Rattle.macros.specs.FirstFault.RestsOn.{up_to_call, up_to_place}
use Rattle.macros.proofs.Round.{read_go, read_refuse, read_refuse_before}
use Rattle.macros.proofs.Pending.{AtCall, Pends, Signed, after, after_one, at_call, pends_one, signed_call, signed_length}

-- the places of two refusals that are one
pub same_place : {k l : FileRefusal} {p q : ℕ} → refused_at k p ≡ refused_at l q → (k ≡ l) × (p ≡ q)
same_place e = (cc, cc)

pub no_table : {A : Type 0} {k : FileRefusal} {p : ℕ} {ms : Table} → table ms ≡ refused_at k p → A
no_table e = let z : ◌≡◌ {A = ℕ} 0 1 = cc in absurd (omega arith)

-- the file's end refuses at its own place
end_place : (q : ℕ) (r : Reader) (k : FileRefusal) (p : ℕ) → at_end q r ≡ refused_at k p → p ≡ q
unfolding at_end pick
end_place q (between true a ms) k p e = sym (same_place e).1
end_place q (between false a ms) k p e = no_table e
end_place q (inside skip n st pr) k p e = sym (same_place e).1

-- WHAT A REFUSAL RESTS ON

-- the refusal k at place p of the bytes s, read by r at place q behind the bytes u, rests on those and the first j + 1 of s
record Shows (u s : List ℕ) (q : ℕ) (r : Reader) (k : FileRefusal) (p : ℕ) : Type 0 where
  j : ℕ
  rests : RestsOn (u ++ s) k p (q + suc j)
  same : (t : List ℕ) → take (suc j) s ≡ take (suc j) t → read_from q r t ≡ refused_at k p

-- a refusal at the place where it shows
here : (s : List ℕ) (k : FileRefusal) (p q : ℕ) → p ≡ q → RestsOn s k p (q + 1)
here s k p q e = let z : suc p ≡ q + 1 = omega arith in subst (λ (n : ℕ). RestsOn s k p n) z up_to_place

-- bytes that begin as none are none
none_too : (t : List ℕ) → take 1 [] ≡ take 1 t → t ≡ []
none_too [] e = refl
none_too (c ∷ t) e = let z : ◌≡◌ {A = ℕ} 0 1 = cc in absurd (omega arith)

-- a refusal by the first byte is one whatever follows it
by_first : (s : List ℕ) (b q : ℕ) (r : Reader) (x : Read) → ((t : List ℕ) → read_from q r (b ∷ t) ≡ x)
    → (t : List ℕ) → take 1 (b ∷ s) ≡ take 1 t → read_from q r t ≡ x
by_first s b q r x f [] e = let z : ◌≡◌ {A = ℕ} 0 1 = cc in absurd (omega arith)
by_first s b q r x f (c ∷ t) e = let z : b ≡ c = cc in rw (← z) (f t)

module _ (start : Reader) where
  -- at the `(` of a first call
  shows_call : (u s : List ℕ) (q : ℕ) (r : Reader) (b : ℕ) (k : FileRefusal) (n p : ℕ) → length u ≡ q → p ≡ q - n → Pends start u r → AtCall r b k n
      → RestsOn (u ++ (b ∷ s)) k p (q + 1)
  shows_call u s q r b k n p h e g c =
      subst (λ (i : ℕ). RestsOn (u ++ (b ∷ s)) k p i) z
      (up_to_call x.before s c.mark x.behind x.skipping (signed_call x b s c.byte) (placed c.fault))
    where
      x : Signed start u false c.mark c.since c.macros
      x = subst (λ y. Pends start u y) c.reader g

      l : length u ≡ length x.before + c.since
      l = signed_length x

      z : length x.before + length (call_sign c.mark x.behind) ≡ q + 1
      z = omega (arith, h, l, x.since, length-append x.behind (40 ∷ []))

      placed : ((k ≡ too_many_macros) × (n ≡ c.since)) ⊎ ((k ≡ macro_too_long) × (n + most_macro_bytes ≡ c.since))
          → ((k ≡ too_many_macros) × (p ≡ length x.before)) ⊎ ((k ≡ macro_too_long) × (p ≡ length x.before + most_macro_bytes))
      placed (inl f) = inl (f.0, omega (arith, h, e, l, f.1))
      placed (inr f) = inr (f.0, omega (arith, h, e, l, f.1))

  shows : (s u : List ℕ) (q : ℕ) (r : Reader) (k : FileRefusal) (p : ℕ) → length u ≡ q → after start u ≡ go r → Pends start u r
      → read_from q r s ≡ refused_at k p → Shows u s q r k p
  unfolding read_from_by
  shows [] u q r k p h e g f = record {
    j = 0;
    rests = here (u ++ []) k p q (end_place q r k p f);
    same = λ t z. rw (none_too t z) f;
  }
  shows (b ∷ s) u q r k p h e g f =
      by (step r b) refl
      (λ x w y. shows s (u ++ (b ∷ [])) (suc q) x k p (let l = length-append u (b ∷ []) in omega arith) (after_one u start r x b e w) (pends_one start u b r x e g w) y)
    where
      same_more : (x : Reader) → step r b ≡ go x → (i : Shows (u ++ (b ∷ [])) s (suc q) x k p) (t : List ℕ)
          → take (suc (suc i.j)) (b ∷ s) ≡ take (suc (suc i.j)) t → read_from q r t ≡ refused_at k p
      same_more x w i [] z = let y : ◌≡◌ {A = ℕ} 0 1 = cc in absurd (omega arith)
      same_more x w i (c ∷ t) z =
          let y : b ≡ c = cc in
          let v : take (suc i.j) s ≡ take (suc i.j) t = cc in
          rw (← y) (read_go q r x b t w ∙ i.same t v)

      on_by : (x : Reader) → step r b ≡ go x → Shows (u ++ (b ∷ [])) s (suc q) x k p → Shows u (b ∷ s) q r k p
      on_by x w i = record {
        j = suc i.j;
        rests =
            let z : suc q + suc i.j ≡ q + suc (suc i.j) = omega arith in
            subst (λ (y : List ℕ). RestsOn y k p (q + suc (suc i.j))) (append_assoc u (b ∷ []) s) (subst (λ (n : ℕ). RestsOn ((u ++ (b ∷ [])) ++ s) k p n) z i.rests);
        same = same_more x w i;
      }

      by : (v : Next) → step r b ≡ v
          → ((x : Reader) → step r b ≡ go x → read_from (suc q) x s ≡ refused_at k p → Shows (u ++ (b ∷ [])) s (suc q) x k p)
          → Shows u (b ∷ s) q r k p
      by (go x) w ih = on_by x w (ih x w (sym (read_go q r x b s w) ∙ f))
      by (refuse i) w ih =
          let z = same_place (sym (read_refuse q i r b s w) ∙ f) in
          record {
            j = 0;
            rests = here (u ++ (b ∷ s)) k p q (sym z.1);
            same = by_first s b q r (refused_at k p) (λ t. read_refuse q i r b t w ∙ (sym (read_refuse q i r b s w) ∙ f));
          }
      by (refuse_before i n) w ih =
          let z = same_place (sym (read_refuse_before q i n r b s w) ∙ f) in
          let c : AtCall r b k n = subst (λ y. AtCall r b y n) z.0 (at_call r b i n w) in
          record {
            j = 0;
            rests = shows_call u s q r b k n p h (sym z.1) g c;
            same = by_first s b q r (refused_at k p) (λ t. read_refuse_before q i n r b t w ∙ (sym (read_refuse_before q i n r b s w) ∙ f));
          }

pub no_zero : (p : ℕ) (s : List ℕ) → NoZero s → first_zero p s ≡ none
unfolding first_zero pick
no_zero p [] w = refl
no_zero p (b ∷ s) w = rw (ne_eqb b 0 (omega (arith, w.0))) (no_zero (suc p) s w.1)

-- a refusal 12 to 19 shows in the reading byte by byte
pub in_reading : (older : Table) (s : List ℕ) (k : FileRefusal) (p : ℕ) → 12 ≤ file_number k → read_onto older s ≡ refused_at k p
    → read_from 0 (between false clear (reverse older)) s ≡ refused_at k p
unfolding read_onto_by file_number
in_reading older s k p h e = by (ltb most_file_bytes (length s)) (first_zero 0 s) e
  where
    by : (x : Bool) (o : Option ℕ)
        → pick x (refused_at file_too_long most_file_bytes) (elim o [ none ↦ read_from 0 (between false clear (reverse older)) s | some q ↦ refused_at zero_byte q ]) ≡ refused_at k p
        → read_from 0 (between false clear (reverse older)) s ≡ refused_at k p
    by true o f = unfold pick in let z : file_too_long ≡ k = (same_place f).0 in let y : 12 ≤ file_number file_too_long = subst (λ x. 12 ≤ file_number x) (sym z) h in absurd (omega arith)
    by false (some q) f = unfold pick in let z : zero_byte ≡ k = (same_place f).0 in let y : 12 ≤ file_number zero_byte = subst (λ x. 12 ≤ file_number x) (sym z) h in absurd (omega arith)
    by false none f = unfold pick in f

pub fault_by_its_bytes : FaultByItsBytes
unfolding read_onto_by pick after
fault_by_its_bytes older s k p n e = (0 + suc w.j, w.rests, back)
  where
    start : Reader
    start = between false clear (reverse older)

    w : Shows [] s 0 start k p
    w = shows start s [] 0 start k p refl refl tt (in_reading older s k p n e)

    back : (t : List ℕ) → Plain t → take (0 + suc w.j) s ≡ take (0 + suc w.j) t → read_onto older t ≡ refused_at k p
    back t g h = unfold read_onto_by pick in simp (le-ltb 32768 (length t) g.0, no_zero 0 t g.1) (w.same t (rw (zero-add (suc w.j)) at h))

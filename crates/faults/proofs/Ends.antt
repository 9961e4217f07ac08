-- A reader at the end of bytes, and what is left of a plain file.
use mathlib.Core.Path.{ap, refl, sym, ◌∙◌, ◌≡◌}
use mathlib.Core.Bool.{Bool, false, true}
use mathlib.Core.List.{◌++◌, List, [], append-nil, reverse, reverse-reverse, ◌∷◌}
use mathlib.Core.Option.{none, some}
use Prim.Native.Nat.{suc, ℕ, ◌≤◌}
use native.Mathlib.Omega.{arith}
use lib.ListN.{length-append}
use lib.Dec.{eqb}
use borrow.Author.Tests.{eqb-false}
use Rattle.macros.specs.Refusals.{FileRefusal}
use Rattle.macros.specs.Macro.{Macro, Table, pick}
use Rattle.macros.specs.Read.{Next, Pending, Reader, at_end, first_zero, read_from, step, read_from_by}
use Rattle.macros.specs.ReadFile.Reader.{between, inside}
use Rattle.macros.specs.ReadFile.Next.{go, refuse, refuse_before}
use Rattle.macros.specs.ReadFile.Read.{refused_at, table}
use Rattle.macros.specs.FirstFault.{NoZero, Plain}
use Rattle.macros.proofs.Round.{read_go, read_refuse, read_refuse_before}
use Rattle.macros.proofs.Pending.{after, after_go, read_after}

not_table : {A : Type 0} {k : FileRefusal} {p : ℕ} {ms : Table} → refused_at k p ≡ table ms → A
not_table e = let z : ◌≡◌ {A = ℕ} 0 1 = cc in absurd (omega arith)

-- the reader at the end of bytes that are read as a table
pub table_after_lem : (u : List ℕ) (q : ℕ) (r : Reader) (new : Table) → read_from q r u ≡ table new → (a : Pending) × (after r u ≡ go (between false a (reverse new)))
unfolding read_from_by after at_end
table_after_lem [] q (between true a ms) new e = unfold pick in not_table e
table_after_lem [] q (between false a ms) new e = unfold pick in let z : reverse ms ≡ new = cc in (a, rw (← z, reverse-reverse ms))
table_after_lem [] q (inside skip n st pr) new e = not_table e
table_after_lem (b ∷ u) q r new e = by (step r b) refl (λ x f. table_after_lem u (suc q) x new f)
  where
    by : (w : Next) → step r b ≡ w → ((x : Reader) → read_from (suc q) x u ≡ table new → (a : Pending) × (after x u ≡ go (between false a (reverse new))))
        → (a : Pending) × (after r (b ∷ u) ≡ go (between false a (reverse new)))
    by (go x) f ih = let i = ih x (sym (read_go q r x b u f) ∙ e) in (i.0, after_go r x b u f ∙ i.1)
    by (refuse k) f ih = not_table (sym (read_refuse q k r b u f) ∙ e)
    by (refuse_before k n) f ih = not_table (sym (read_refuse_before q k n r b u f) ∙ e)

-- no byte 0 is found
pub nonzero : (p : ℕ) (s : List ℕ) → first_zero p s ≡ none → NoZero s
unfolding first_zero
nonzero p [] e = tt
nonzero p (b ∷ s) e = by (eqb b 0) refl e (λ f. nonzero (suc p) s f)
  where
    by : (x : Bool) → eqb b 0 ≡ x → pick x (some p) (first_zero (suc p) s) ≡ none → (first_zero (suc p) s ≡ none → NoZero s) → (1 ≤ b) × NoZero s
    by true q f ih = unfold pick in let z : ◌≡◌ {A = ℕ} 0 1 = cc in absurd (omega arith)
    by false q f ih = unfold pick in (omega (arith, eqb-false b 0 q), ih f)

plain_before : (u v : List ℕ) → NoZero (u ++ v) → NoZero u
plain_before [] v g = tt
plain_before (b ∷ u) v g = (g.0, plain_before u v g.1)

pub plain_front : (u v : List ℕ) → Plain (u ++ v) → Plain u
plain_front u v g = let l = length-append u v in (omega (arith, g.0), plain_before u v g.1)

-- the end of bytes behind which no macro and no skip is open
pub end_of : (u : List ℕ) (r : Reader) (a : Pending) (ms : List Macro) → after r u ≡ go (between false a ms) → read_from 0 r u ≡ table (reverse ms)
unfolding read_from_by at_end pick
end_of u r a ms e = ap (read_from 0 r) (sym (append-nil u)) ∙ read_after u [] 0 r (between false a ms) e

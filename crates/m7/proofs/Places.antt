-- The place of a refusal is at most 32,768, and so is the length of a written file.
use Prim.Native.Nat.{ℕ, suc, ◌+◌, ◌-◌, ◌≤◌}
use mathlib.Core.Path.{◌≡◌, subst}
use mathlib.Core.List.{List, [], ◌∷◌, ◌++◌}
use mathlib.Core.Option.{Option, none, some}
use native.Mathlib.Omega.{arith}
use borrow.Author.Tests.{leb-true, ltb-false}
use lib.Dec.{eqb, ltb, leb}
use lib.ListN.{length, length-append}
use Rattle.macros.specs.Bounds.{most_file_bytes, most_macro_bytes}
use Rattle.macros.specs.Refusals.{FileRefusal}
use Rattle.macros.specs.Refusals.FileRefusal.{zero_byte}
use Rattle.macros.specs.Macro.{Table}
use Rattle.macros.specs.Read.{Read, Reader, Next, step_by, at_end, read_from_by, first_zero, read_onto_by}
use Rattle.macros.specs.ReadFile.Reader.{between, inside}
use Rattle.macros.specs.ReadFile.Next.{go, refuse, refuse_before}
use Rattle.macros.specs.ReadFile.Read.{refused_at, table}
use Rattle.macros.specs.Write.{Written, written, write_from, write_out}
use Rattle.macros.specs.Write.Written.{refused, file}
use Rattle.form_table.proofs.Basics.{and_right}
use Rattle.lines.proofs.KeepTests.{by_pick}

-- READING

unfoldable place_in : Read → ℕ
place_in (refused_at f q) = q
place_in (table ms) = 0

end_place : (p : ℕ) (r : Reader) → place_in (at_end p r) ≤ p
unfolding place_in at_end
end_place p (between skip m ms) = by_pick (λ (w : Read). place_in w ≤ p) skip _ _ (λ e. omega arith) (λ e. omega arith)
end_place p (inside skip n st ms) = omega arith

next_place : (longest : ℕ) (bs : List ℕ) (p : ℕ) → ((r : Reader) → place_in (read_from_by longest (suc p) r bs) ≤ suc p + length bs) → (n : Next)
    → place_in (elim n [ go r ↦ read_from_by longest (suc p) r bs | refuse f ↦ refused_at f p | refuse_before f n ↦ refused_at f (p - n) ]) ≤ p + suc (length bs)
unfolding place_in
next_place longest bs p h (go r) = omega (arith, h r)
next_place longest bs p h (refuse f) = omega arith
next_place longest bs p h (refuse_before f n) = omega arith

from_place : (longest : ℕ) (s : List ℕ) (p : ℕ) (r : Reader) → place_in (read_from_by longest p r s) ≤ p + length s
unfolding read_from_by
from_place longest [] p r = omega (arith, end_place p r)
from_place longest (b ∷ bs) p r = next_place longest bs p (λ (n : Reader). from_place longest bs (suc p) n) (step_by longest r b)

unfoldable zero_in : Option ℕ → ℕ
zero_in none = 0
zero_in (some p) = p

zero_place : (s : List ℕ) (p : ℕ) → zero_in (first_zero p s) ≤ p + length s
unfolding zero_in first_zero
zero_place [] p = omega arith
zero_place (b ∷ bs) p = by_pick (λ (o : Option ℕ). zero_in o ≤ p + suc (length bs)) (eqb b 0) _ _ (λ e. omega arith) (λ e. omega (arith, zero_place bs (suc p)))

whole_place : (longest : ℕ) (s : List ℕ) (r : Reader) (o : Option ℕ) → length s ≤ most_file_bytes → zero_in o ≤ length s
    → place_in (elim o [ none ↦ read_from_by longest 0 r s | some p ↦ refused_at zero_byte p ]) ≤ most_file_bytes
unfolding place_in zero_in
whole_place longest s r none h z = omega (arith, from_place longest s 0 r)
whole_place longest s r (some p) h z = omega arith

all_place : (longest : ℕ) (older : Table) (s : List ℕ) → place_in (read_onto_by longest older s) ≤ most_file_bytes
unfolding place_in read_onto_by
all_place longest older s =
    by_pick (λ (w : Read). place_in w ≤ most_file_bytes) (ltb most_file_bytes (length s)) _ _ (λ e. omega arith)
    (λ e. whole_place longest s _ (first_zero 0 s) (ltb-false _ _ e) (omega (arith, zero_place s 0)))

pub onto_place : (longest : ℕ) (older : Table) (s : List ℕ) {f : FileRefusal} {q : ℕ} → read_onto_by longest older s ≡ refused_at f q → q ≤ most_file_bytes
unfolding place_in
onto_place longest older s e = subst (λ (w : Read). place_in w ≤ most_file_bytes) e (all_place longest older s)

-- WRITING OUT

-- a refusal's place, or the file's length
unfoldable pub extent : Written → ℕ
extent (refused f p) = p
extent (file s) = length s

from_extent : (ms : Table) (s : List ℕ) → length s ≤ most_file_bytes → extent (write_from s ms) ≤ most_file_bytes
unfolding extent write_from
from_extent [] s h = h
from_extent (m ∷ ms) s h =
    let line = length-append (written m) (10 ∷ []) in
    let all = length-append s (written m ++ (10 ∷ [])) in
    by_pick (λ (w : Written). extent w ≤ most_file_bytes) _ _ _
    (λ e. leb-true _ _ (and_right (ltb most_macro_bytes (length (written m))) (leb (length s + most_macro_bytes) most_file_bytes) e))
    (λ e. by_pick (λ (w : Written). extent w ≤ most_file_bytes) (ltb most_file_bytes (length s + suc (length (written m)))) _ _ (λ g. omega arith)
    (λ g. from_extent ms (s ++ (written m ++ (10 ∷ []))) (omega (arith, line, all, ltb-false most_file_bytes (length s + suc (length (written m))) g))))

pub out_extent : (ms : Table) → extent (write_out ms) ≤ most_file_bytes
unfolding write_out
out_extent ms = from_extent ms [] (omega arith)

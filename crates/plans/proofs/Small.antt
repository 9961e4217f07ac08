-- How large the numbers of a file can be.
-- Assumes nothing.
use mathlib.Core.Path.{◌≡◌, refl, ◌∙◌, sym, subst}
use mathlib.Core.Bool.{Bool, true, false}
use mathlib.Core.Logic.{inl, inr}
use mathlib.Core.List.{List, [], ◌∷◌, ◌++◌, reverse, reverse_aux}
use mathlib.Core.Option.{Option, none, some}
use Prim.Native.Nat.{ℕ, suc, ◌+◌, ◌-◌, ◌≤◌, ◌<◌}
use native.Mathlib.Omega.{arith}
use lib.Dec.{eqb, ltb}
use lib.ListN.{length, length-append}
use borrow.Author.Tests.{ltb-false}
use Rattle.macros.specs.Bounds.{most_file_bytes, most_macro_bytes, most_tags}
use Rattle.macros.specs.Refusals.{FileRefusal}
use Rattle.macros.specs.Refusals.FileRefusal.{file_too_long, zero_byte}
use Rattle.macros.specs.Macro.{Closure, PatternUnit, Piece, Macro, Table, pick, tags, elements}
use Rattle.macros.specs.Macro.PatternUnit.{literal, kind, class, call_of}
use Rattle.macros.specs.Macro.Piece.{element, start, end, left, right}
use Rattle.macros.specs.Formed.{FormedPieces}
use Rattle.macros.specs.Read.{Joinable, Next, Reader, step, at_end, read_from, first_zero, read_onto, read_from_by, read_onto_by}
use Rattle.macros.specs.ReadSoFar.Joinable.{nothing}
use Rattle.macros.specs.ReadFile.Pending.{clear}
use Rattle.macros.specs.ReadFile.Reader.{between, inside}
use Rattle.macros.specs.ReadFile.Next.{go, refuse, refuse_before}
use Rattle.macros.specs.ReadFile.Read.{refused_at, table}
use Rattle.macros.specs.Write.{byte}
use Rattle.macros.specs.Spell.{needs, spell_unit, spell_piece, spell_pattern, leaves, shortest}
use Rattle.macros.specs.Accepted.{Each, Spellable}
use Rattle.macros.proofs.FirstFault.{same_place, no_table}
use Rattle.macros.proofs.Round.{read_go, read_refuse, read_refuse_before}
use Rattle.macros.proofs.Costs.{byte_least}
use Rattle.plans.specs.Measure.{macro_elements, macro_tags}
use Rattle.plans.specs.MeasureLaw.{OneOf}

-- ELEMENTS AND TAGS

tags_onto : (ps l : List Piece) → tags (reverse_aux ps l) ≡ tags ps + tags l
unfolding tags
tags_onto [] l = omega arith
tags_onto (element u c ∷ ps) l = tags_onto ps (element u c ∷ l)
tags_onto (start ∷ ps) l = tags_onto ps (start ∷ l)
tags_onto (end ∷ ps) l = tags_onto ps (end ∷ l)
tags_onto (left ∷ ps) l = tags_onto ps (left ∷ l) ∙ omega arith
tags_onto (right ∷ ps) l = tags_onto ps (right ∷ l)

formed_tags : (ps : List Piece) → FormedPieces ps → tags ps ≤ most_tags
unfolding tags
formed_tags [] f = omega arith
formed_tags (element u c ∷ ps) f = formed_tags ps f.1
formed_tags (start ∷ ps) f = formed_tags ps f
formed_tags (end ∷ ps) f = formed_tags ps f
formed_tags (left ∷ ps) f = omega (arith, f.0)
formed_tags (right ∷ ps) f = formed_tags ps f.1

pub few_tags : (m : Macro) → Spellable m → macro_tags m ≤ most_tags
unfolding macro_tags tags
few_tags m f = let k = formed_tags (reverse m.pattern) f.0.pattern.pieces in omega (arith, tags_onto m.pattern [])

unit_least : (h : Joinable) (u : PatternUnit) → 1 ≤ length (spell_unit h u)
unfolding spell_unit
unit_least h (literal b) = byte_least (needs h b) b
unit_least h (kind n) = omega arith
unit_least h (class true ms) = omega arith
unit_least h (class false ms) = omega arith
unit_least h (call_of m i) = omega arith

-- an element has a byte
elements_least : (h : Joinable) (ps : List Piece) → elements ps ≤ length (spell_pattern h ps)
unfolding elements spell_pattern spell_piece
elements_least h [] = omega arith
elements_least h (element u c ∷ ps) =
    let r = elements_least (leaves (element u c)) ps in
    simp length-append (omega (arith, unit_least h u))
elements_least h (start ∷ ps) = let r = elements_least (leaves start) ps in omega arith
elements_least h (end ∷ ps) = let r = elements_least (leaves end) ps in omega arith
elements_least h (left ∷ ps) = let r = elements_least (leaves left) ps in omega arith
elements_least h (right ∷ ps) = let r = elements_least (leaves right) ps in omega arith

pattern_least : (m : Macro) → length (spell_pattern nothing m.pattern) ≤ length (shortest m)
unfolding shortest
pattern_least m = simp length-append (omega arith)

pub few_elements : (m : Macro) → Spellable m → macro_elements m ≤ most_macro_bytes
unfolding macro_elements
few_elements m f = let k = elements_least nothing m.pattern in omega (arith, f.1, pattern_least m)

-- a claim about each of them
pub each_one : (P : Macro → Type 0) (ms : Table) → Each P ms → (m : Macro) → OneOf m ms → P m
unfolding OneOf
each_one P [] e m o = absurd o
each_one P (k ∷ ms) e m (inl i) = subst P (sym i) e.0
each_one P (k ∷ ms) e m (inr o) = each_one P ms e.1 m o

-- PLACES

end_within : (q : ℕ) (r : Reader) (c : FileRefusal) (p : ℕ) → at_end q r ≡ refused_at c p → p ≤ q
unfolding at_end pick
end_within q (between true a ms) c p e = let z = (same_place e).1 in omega arith
end_within q (between false a ms) c p e = no_table e
end_within q (inside skip n st pr) c p e = let z = (same_place e).1 in omega arith

from_within : (s : List ℕ) (q : ℕ) (r : Reader) (c : FileRefusal) (p : ℕ) → read_from q r s ≡ refused_at c p → p ≤ q + length s
unfolding read_from_by
from_within [] q r c p e = let z = end_within q r c p e in omega arith
from_within (b ∷ s) q r c p e = by (step r b) refl (λ x f. from_within s (suc q) x c p f)
  where
    by : (x : Next) → step r b ≡ x → ((x : Reader) → read_from (suc q) x s ≡ refused_at c p → p ≤ suc q + length s) → p ≤ q + suc (length s)
    by (go x) f ih = let z = ih x (sym (read_go q r x b s f) ∙ e) in omega arith
    by (refuse k) f ih = let z = (same_place (sym (read_refuse q k r b s f) ∙ e)).1 in omega arith
    by (refuse_before k n) f ih = let z = (same_place (sym (read_refuse_before q k n r b s f) ∙ e)).1 in omega arith

zero_within : (q : ℕ) (s : List ℕ) (p : ℕ) → first_zero q s ≡ some p → p ≤ q + length s
unfolding first_zero
zero_within q [] p e = let z : ◌≡◌ {A = ℕ} 0 1 = cc in absurd (omega arith)
zero_within q (b ∷ s) p e = by (eqb b 0) e (λ f. zero_within (suc q) s p f)
  where
    by : (x : Bool) → pick x (some q) (first_zero (suc q) s) ≡ some p → (first_zero (suc q) s ≡ some p → p ≤ suc q + length s) → p ≤ q + suc (length s)
    by true f ih = unfold pick in let z : q ≡ p = cc in omega arith
    by false f ih = unfold pick in let z = ih f in omega arith

pub onto_within : (older : Table) (s : List ℕ) (c : FileRefusal) (p : ℕ) → read_onto older s ≡ refused_at c p → p ≤ most_file_bytes
unfolding read_onto_by
onto_within older s c p e = by (ltb most_file_bytes (length s)) (first_zero 0 s) refl refl e
  where
    by : (x : Bool) (o : Option ℕ) → ltb most_file_bytes (length s) ≡ x → first_zero 0 s ≡ o
        → pick x (refused_at file_too_long most_file_bytes) (elim o [ none ↦ read_from 0 (between false clear (reverse older)) s | some q ↦ refused_at zero_byte q ]) ≡ refused_at c p
        → p ≤ most_file_bytes
    by true o f g h = unfold pick in let z = (same_place h).1 in omega arith
    by false none f g h = unfold pick in let z = from_within s 0 _ c p h in omega (arith, ltb-false most_file_bytes (length s) f)
    by false (some q) f g h = unfold pick in let z = (same_place h).1 in let y = zero_within 0 s q g in omega (arith, ltb-false most_file_bytes (length s) f)

-- A call's text, and the zero behind it where its length is odd.
use mathlib.Core.Path.{◌≡◌, refl}
use mathlib.Core.Bool.{Bool, true, false}
use mathlib.Core.List.{List, [], ◌∷◌, ◌++◌, append-nil, reverse_aux}
use Prim.Native.Nat.{ℕ, suc, ◌+◌, ◌%◌, ◌≤◌}
use native.Mathlib.Omega.{arith}
use lib.Dec.{eqb}
use lib.ListN.{length, length-append}
use borrow.Author.Tests.{eqb-true, eqb-false, eq-eqb, ne_eqb}
use Rattle.macros.specs.Macro.{pick}
use Rattle.macros.specs.Formed.{Bytes, Octets}
use Rattle.form_table.specs.Form.{evened}
use Rattle.form_table.proofs.Basics.{octets_append}

pub evened_even : (t : List ℕ) → length t % 2 ≡ 0 → evened t ≡ t
unfolding evened pick
evened_even t e = rw (eq-eqb (length t % 2) 0 e) (append-nil t)

pub evened_odd : (t : List ℕ) → length t % 2 ≡ 1 → evened t ≡ t ++ (0 ∷ [])
unfolding evened pick
evened_odd t e = rw (ne_eqb (length t % 2) 0 (omega arith))

pub evened_two : (a b : ℕ) (t : List ℕ) → evened (a ∷ b ∷ t) ≡ a ∷ b ∷ evened t
unfolding evened
evened_two a b t = rw e
  where
    e : suc (suc (length t)) % 2 ≡ length t % 2
    e = omega arith

-- what holds of a text with and without a zero
evened_either : (P : List ℕ → Type 0) (t : List ℕ) → P t → P (t ++ (0 ∷ [])) → P (evened t)
evened_either P t f g = by (eqb (length t % 2) 0) refl
  where
    by : (x : Bool) → eqb (length t % 2) 0 ≡ x → P (evened t)
    by true e = rw (evened_even t (eqb-true (length t % 2) 0 e)) f
    by false e = rw (evened_odd t (omega (arith, eqb-false (length t % 2) 0 e))) g

pub evened_size : (t : List ℕ) → length (evened t) ≤ length t + 1
evened_size t = evened_either (λ (s : List ℕ). length s ≤ length t + 1) t (omega arith) (simp length-append (omega arith))

pub evened_octets : (t : List ℕ) → Octets t → Octets (evened t)
evened_octets t h = evened_either Octets t h (octets_append t (0 ∷ []) h (omega arith))

-- a text from either end
pub bytes_onto : (t s : List ℕ) → Bytes t → Bytes s → Bytes (reverse_aux t s)
bytes_onto [] s f g = g
bytes_onto (b ∷ t) s f g = bytes_onto t (b ∷ s) f.1 (f.0, g)

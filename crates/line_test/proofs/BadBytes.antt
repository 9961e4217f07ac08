-- Whether a line holds byte 0 or line feed (22), as a test of each byte.
-- Assumes nothing.
use Prim.Native.Nat.{ℕ, zero, suc, ◌<◌}
use mathlib.Core.Path.{◌≡◌, refl, ◌∙◌, sym}
use mathlib.Core.Bool.{Bool, true, false, ◌||◌}
use mathlib.Core.List.{List, [], ◌∷◌}
use native.Mathlib.Omega.{arith}
use lib.Dec.{eqb}
use lib.ListN.{get_or}
use Rattle.std.proofs.Common.{Fits, w8}
use Rattle.std.specs.List.{list_any}
use Rattle.macros.specs.Formed.{Bytes}
use Rattle.lines.specs.Feeding.{has_bad_byte}
use Rattle.line_test.specs.Test.{Tested}

abbrev pub bad : ℕ → Bool
bad b = eqb b 0 || eqb b 10

or_cases : (c : Bool) {r s : Bool} → r ≡ s → (c || r) ≡ elim c [ true ↦ true | false ↦ s ]
or_cases true e = refl
or_cases false e = e

any_bad : (t : List ℕ) → list_any bad t ≡ has_bad_byte t
unfolding has_bad_byte
any_bad [] = refl
any_bad (b ∷ t) = or_cases (bad b) (any_bad t)

split : (a b r : Bool) → ((a || b) || r) ≡ false → (a ≡ false) × (r ≡ false)
split false false r e = (refl, e)
split false true r e = cc
split true b r e = cc

no_zero : (b : ℕ) → eqb b 0 ≡ false → 0 < b
no_zero zero e = cc
no_zero (suc b) e = omega arith

bytes : (t : List ℕ) → ((i : ℕ) → Fits w8 (get_or t i 0)) → list_any bad t ≡ false → Bytes t
bytes [] f e = tt
bytes (b ∷ t) f e =
    let s = split (eqb b 0) (eqb b 10) (list_any bad t) e in
    let z = no_zero b s.0 in
    let g = f 0 in
    (omega arith, bytes t (λ i. f (suc i)) s.1)

pub tested : (t : List ℕ) {r : Bool} → ((i : ℕ) → Fits w8 (get_or t i 0)) → r ≡ list_any bad t → Tested t r
tested t f e = record { says = e ∙ any_bad t; bytes = λ g. bytes t f (sym e ∙ g) }

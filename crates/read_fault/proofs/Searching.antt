-- The first `;` from a place on.
-- Assumes nothing.
use Rattle.std.proofs.Common.{◌≡◌, refl, ap, sym, ◌∙◌, arith, ℕ, suc, ◌+◌, ◌-◌, ◌==◌, Bool, true, false, List, [], ◌∷◌, length, take, drop, position, Option, Some, None}
use Rattle.std.proofs.lemmas.Iterator.Adapters.{position_from-zero}
use Rattle.std.specs.List.{position_from}
use native.Mathlib.Nat.{add-zero}
use lib.Seq.{take_all}
use lib.ListN.{length-drop}
use Rattle.faults.specs.Recover.{behind_first}
use Rattle.read_fault.specs.Noting.{as_option, behind_or_none}

-- the place behind the byte that so many others stand before, from q on
abbrev pub farther : (q : ℕ) → Option ℕ → Option ℕ
farther q None = None
farther q (Some k) = Some (q + k + 1)

from : (l : List ℕ) (q i : ℕ) → as_option (behind_first (q + i) l) ≡ farther q (position_from (λ b. b == 59) i l)
unfolding behind_first
from [] q i = refl
from (b ∷ l) q i = by (b == 59) refl (from l q (i + 1))
  where
    by : (x : Bool) → (b == 59) ≡ x → as_option (behind_first (q + (i + 1)) l) ≡ farther q (position_from (λ b. b == 59) (i + 1) l)
        → as_option (behind_first (q + i) (b ∷ l)) ≡ farther q (position_from (λ b. b == 59) i (b ∷ l))
    by true e h = rw (e, behind_first) (ap (λ (n : ℕ). Some n) (omega arith))
    by false e h = let p : suc (q + i) ≡ q + (i + 1) = omega arith in rw (e, behind_first, p) h

pub behind_position : (s : List ℕ) (q : ℕ) {o : Option ℕ} → o ≡ position (λ b. b == 59) (take (length s - q) (drop q s)) → behind_or_none s q ≡ farther q o
behind_position s q e =
    let t : take (length s - q) (drop q s) ≡ drop q s = take_all (length s - q) (drop q s) (omega (arith, length-drop q s)) in
    rw add-zero at (from (drop q s) q 0) ∙ ap (farther q) (sym (position_from-zero (λ b. b == 59) (drop q s)) ∙ (ap (position (λ b. b == 59)) (sym t) ∙ sym e))

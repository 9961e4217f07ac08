-- A walk over items: a machine that takes two bytes after two.
use Rattle.std.specs.Prelude.{ℕ, Bool, true, false, List, [], ◌∷◌}
use Rattle.std.proofs.Math.Option.{Option, none, some}

-- an answer where a test holds
unfoldable pub given : {A : Type 0} → Bool → A → Option A
given true a = some a
given false a = none

-- one byte more where a test holds
unfoldable pub bit : Bool → ℕ
bit true = 1
bit false = 0

-- a step answers the next state, or none if no form has such an item; nor has one an odd byte
unfoldable pub walk : {S : Type 0} → (S → ℕ → ℕ → Option S) → S → List ℕ → Option S
walk step s [] = some s
walk step s (c ∷ []) = none
walk step s (c ∷ o ∷ l) = elim (step s c o) [ none ↦ none | some s' ↦ walk step s' l ]

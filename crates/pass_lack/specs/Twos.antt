-- The items of a pattern by twos, a code and an operand.
use Rattle.std.specs.Prelude.{ℕ, ◌≤◌, ◌<◌, ◌≡◌, Bool, true, false, List, [], ◌∷◌}
use Rattle.macros.specs.Formed.{Letter}

-- a fact of every item, two bytes each
abbrev pub Pairs : (ℕ → ℕ → Type 0) → List ℕ → Type 0
Pairs P [] = Unit {0}
Pairs P (c ∷ []) = ⊥
Pairs P (c ∷ i ∷ l) = P c i × Pairs P l

-- the operand of a call, codes 16 to 23, is a letter
abbrev pub LetterIn : ℕ → ℕ → Type 0
LetterIn c i = 16 ≤ c → c < 24 → Letter i

-- the answer is true exactly if P holds
abbrev pub Exactly : Bool → Type 0 → Type 0
Exactly r P = (r ≡ true → P) × (r ≡ false → P → ⊥)

-- WHAT THE PROGRAM SAYS TO A LINE (01, part 8), as bytes with their line feed.
-- It rules out, among others, the edit withheld_said (a withheld line is written).
use Rattle.std.specs.Prelude.{ℕ, ◌+◌, ◌≤◌, ◌≡◌, List, [], ◌∷◌, ◌++◌, length, take}
use Rattle.io.specs.Digits.{last_digits, IsDigitCount}
use Rattle.line_answer.specs.declared.Answer.{Answer}

-- so many of the bytes held are said
abbrev pub Within : (r : ℕ) → (said : List ℕ) → Type 0
Within r said = (r ≤ 1100) × (1100 ≡ length said)

-- a number in decimal digits without leading zeros
pub record Decimal (n : ℕ) (s : List ℕ) : Type 0 where
  pub count : ℕ
  pub fewest : IsDigitCount 10 1 n count
  pub same : s ≡ last_digits 10 count n

-- "a refused line gives `! N L`, number and line"
pub record RefusalSaid (n l : ℕ) (s : List ℕ) : Type 0 where
  pub number : List ℕ
  pub line : List ℕ
  pub is_number : Decimal n number
  pub is_line : Decimal l line
  pub same : s ≡ (33 ∷ 32 ∷ []) ++ (number ++ ((32 ∷ []) ++ (line ++ (10 ∷ []))))

-- "writes each line that goes out"
abbrev pub OutSaid : (text : List ℕ) → (size : ℕ) → List ℕ → Type 0
OutSaid text size s = s ≡ take size text ++ (10 ∷ [])

-- by the engine's answer, the output's bytes and the line's number
pub record Said (a : Answer) (text : List ℕ) (l : ℕ) (s : List ℕ) : Type 0 where
  pub refused : (a.number ≡ 0 → ⊥) → RefusalSaid a.number l s
  pub out : a.number ≡ 0 → a.kind ≡ 1 → OutSaid text a.length s
  pub silent : a.number ≡ 0 → (a.kind ≡ 1 → ⊥) → s ≡ []

-- a number's digits and a byte behind the bytes held
pub record Numbered (old new : List ℕ) (used n then r : ℕ) : Type 0 where
  pub text : List ℕ
  pub decimal : Decimal n text
  pub bytes : take r new ≡ take used old ++ (text ++ (then ∷ []))
  pub most : r ≤ used + 21
  pub room : 1100 ≡ length new

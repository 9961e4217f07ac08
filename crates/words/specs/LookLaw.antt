-- THE LAWS OF LOOKING UP: an answer is given exactly for its reason, and there is no refusal exactly if line and word-pattern are in form.
use Rattle.std.specs.Prelude.{◌≡◌, ◌↔◌, ℕ, ◌≤◌, ◌<◌, List, [], ◌∷◌, length}
use Rattle.macros.specs.Bounds.{most_line_bytes}
use Rattle.macros.specs.Refusals.LineRefusal.{line_too_long, bad_byte, bad_control}
use Rattle.lines.specs.Demand.{HasBadByte}
use Rattle.words.specs.Refusal.WordRefusal.{bad_pattern}
use Rattle.words.specs.Word.{Word, word}
use Rattle.words.specs.PatternLaw.{IsPattern, NoPattern}
use Rattle.words.specs.Cover.{Covers}
use Rattle.words.specs.WordLaw.{IsWord, OneOf, Rising}
use Rattle.words.specs.Look.{Looked, look_up}
use Rattle.words.specs.Look.Looked.{found, refused_line, refused_pattern}

-- WHAT IS FOUND

-- the place of the first, or 0 where there is none
unfoldable pub FirstAt : List Word → ℕ → Type 0
FirstAt [] q = q ≡ 0
FirstAt (word i w ∷ ws) q = q ≡ i

-- "the number of words covered and the place of the first, or that there is none": n and q, of the line t and the word-pattern p
pub record Finds (t p : List ℕ) (n q : ℕ) : Type 0 where
  -- the words covered: each is one of the line's, each one that some choice of runs covers is there, and they are in order
  pub covered : List Word
  pub sound : (i : ℕ) (w : List ℕ) → OneOf (word i w) covered → IsWord t i w × Covers p w
  pub complete : (i : ℕ) (w : List ℕ) → IsWord t i w → Covers p w → OneOf (word i w) covered
  pub rising : Rising covered
  pub number : length covered ≡ n
  pub first : FirstAt covered q

-- WHY

-- nothing refuses the line: not 21 or 22
pub record LineTaken (t : List ℕ) : Type 0 where
  pub short : length t ≤ most_line_bytes
  pub clean : HasBadByte t → ⊥

-- the reason of each answer to the line t and the word-pattern p
abbrev pub Reason : (t p : List ℕ) → Looked → Type 0
-- "21 too long" (01, refusals), first
Reason t p (refused_line line_too_long) = most_line_bytes < length t
-- "22 holds byte 0 or line feed" (01, refusals)
Reason t p (refused_line bad_byte) = (length t ≤ most_line_bytes) × HasBadByte t
-- 23 is about control lines, and never comes
Reason t p (refused_line bad_control) = ⊥
-- "41 .. comes after the line's own 21 and 22"
Reason t p (refused_pattern bad_pattern) = LineTaken t × NoPattern p
-- otherwise number and place
Reason t p (found n q) = LineTaken t × IsPattern p × Finds t p n q

-- THE LAWS

-- an answer is given exactly if it has its reason
abbrev pub AnswersExactly : Type 0
AnswersExactly = (t p : List ℕ) (a : Looked) → (look_up t p ≡ a) ↔ Reason t p a

-- number and place are given exactly if nothing refuses the line and the pattern is one
abbrev pub TakenExactly : Type 0
TakenExactly = (t p : List ℕ) → ((n : ℕ) × (q : ℕ) × (look_up t p ≡ found n q)) ↔ (LineTaken t × IsPattern p)

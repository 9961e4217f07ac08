-- What finding the match at a place promises (01, parts 3 and 5).
use Rattle.std.specs.Prelude.{ℕ, ◌*◌, ◌≤◌, ◌<◌, ◌≡◌, Bool, true, false, List, eqb, leb, length, get_or, drop, Option as CodeOption, Some, None}
use Rattle.std.proofs.Math.Option.{Option, none, some}
use Rattle.kinds.specs.Kind.{kind_table}
use Rattle.macros.specs.Bounds.{most_line_bytes}
use Rattle.macros.specs.Macro.{Piece}
use Rattle.form_table.specs.Form.{body_bytes}
use Rattle.lines.specs.State.{State}
use Rattle.lines.specs.Matching.{Division, end_of, stops}
use Rattle.lines.specs.Choosing.{chosen}
use Rattle.lines.specs.Pass.{match}
use Rattle.form_state.specs.Access.{Holds, IsState}
use Rattle.pass_replace.specs.Contract.{EndsFrom}
use Rattle.pass_one.specs.Marks.{rows_bytes, Sound}
use Rattle.pass_unit.specs.Pattern.{IsPattern}

-- the matcher's memories: `ends` has a place for each byte of the items, `marks` 66 bytes
pub record Ready (items kinds b t : List ℕ) (p : ℕ) (marks ends : List ℕ) : Type 0 where
  pub pattern : (es : List Piece) × IsPattern items es
  pub fits : length items ≤ body_bytes
  pub table : kinds ≡ kind_table
  pub state : IsState b
  pub short : length t ≤ most_line_bytes
  pub place : p ≤ length t
  pub size : length marks ≡ rows_bytes items
  pub count : length ends ≡ body_bytes
  pub inside : (i : ℕ) → get_or ends i 0 ≤ length t
  pub sound : Sound items b t marks

-- where the last match ended: past every place if there was none
abbrev pub pick_last : Bool → ℕ → Option ℕ
pick_last true n = some n
pick_last false n = none

-- the end of the match just made, from the number that the code keeps
unfoldable pub last_of : ℕ → Option ℕ
last_of n = pick_last (leb n most_line_bytes) n

-- the answer says what the definition finds, and the ends are those of its division
abbrev pub FoundAt : Option Division → ℕ → List Piece → List ℕ → CodeOption ℕ → Type 0
FoundAt none p es ends None = Unit {0}
FoundAt none p es ends (Some q) = ⊥
FoundAt (some d) p es ends None = ⊥
FoundAt (some d) p es ends (Some q) = (end_of p d ≡ q) × EndsFrom ends 0 es (stops d)

-- what trying place p finds: the definition's match, with marks that stay sound
pub record Finds (items b t : List ℕ) (last p : ℕ) (marks marks' ends' : List ℕ) (r : CodeOption ℕ) : Type 0 where
  pub found : (es : List Piece) → IsPattern items es → (st : State) → Holds b st
      → FoundAt (match st es (last_of last) p (drop p t)) p es ends' r
  pub sound : Sound items b t marks'
  -- only the marks of the items change
  pub outside : drop (66 * length items) marks' ≡ drop (66 * length items) marks
  pub inside : (i : ℕ) → get_or ends' i 0 ≤ length t

-- "An empty match at the end of the match just made in the same pass does not count."
abbrev pub counted_if : Bool → Bool → ℕ → CodeOption ℕ
counted_if true true q = None
counted_if true false q = Some q
counted_if false b q = Some q

-- "An empty match at the end of the match just made in the same pass does not count."
abbrev pub counted_of : CodeOption ℕ → ℕ → ℕ → CodeOption ℕ
counted_of None last p = None
counted_of (Some q) last p = counted_if (eqb q p) (eqb last p) q

-- if the answer is true, no division begins at p
pub record Differs (items t : List ℕ) (p : ℕ) (r : Bool) : Type 0 where
  pub none_here : r ≡ true → (es : List Piece) → IsPattern items es → (st : State) → chosen st es p (drop p t) ≡ none

-- no division begins past the place r, up to the line's length
pub record LastPlace (items t : List ℕ) (r : ℕ) : Type 0 where
  pub inside : r ≤ length t
  pub none_past : (es : List Piece) → IsPattern items es → (st : State) (p : ℕ) → r < p → p ≤ length t → chosen st es p (drop p t) ≡ none

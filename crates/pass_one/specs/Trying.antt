-- What the two functions of the matcher ask and say.
use Rattle.std.specs.Prelude.{ℕ, ◌+◌, ◌*◌, ◌≤◌, ◌<◌, ◌≡◌, true, List, [], ◌∷◌, length, get_or, drop, Option as CodeOption, Some, None}
use Rattle.std.proofs.Math.Option.{Option, none, some}
use Rattle.kinds.specs.Kind.{kind_table}
use Rattle.macros.specs.Bounds.{most_line_bytes}
use Rattle.macros.specs.Macro.{Closure, PatternUnit, Piece}
use Rattle.macros.specs.Macro.Piece.{element}
use Rattle.form_table.specs.Form.{body_bytes, piece_items}
use Rattle.lines.specs.State.{State}
use Rattle.lines.specs.Matching.{Division, stops, fits, width}
use Rattle.lines.specs.Choosing.{chosen}
use Rattle.form_state.specs.Access.{IsState, OfState}
use Rattle.pass_replace.specs.Contract.{EndsFrom}
use Rattle.pass_one.specs.Marks.{rows_bytes, copies_from, Sound}
use Rattle.pass_unit.specs.Pattern.{IsRest, OfPiece}
use Rattle.pass_unit.specs.Pieces.{Stands, IsUnit, Wide}
use Rattle.form_element.specs.declared.Unit.{Unit as CodeUnit}

-- the end places of what is chosen
abbrev pub stops_of : Option Division → Option (List ℕ)
stops_of none = none
stops_of (some d) = some (stops d)

-- the end places of the chosen division of the pieces es at p
abbrev pub answer : State → List Piece → List ℕ → ℕ → Option (List ℕ)
answer st es t p = stops_of (chosen st es p (drop p t))

-- the end places of more copies of u from q on, as many as there can be, and then es
abbrev pub after : State → PatternUnit → List Piece → List ℕ → ℕ → Option (List ℕ)
after st u es t q = stops_of (copies_from st u es t q)

-- the end place q, and then those of a
abbrev pub then_p : ℕ → Option (List ℕ) → Option (List ℕ)
then_p q none = none
then_p q (some l) = some (q ∷ l)

-- where the last of some end places is, if there is one, else p
abbrev pub last_stop : ℕ → List ℕ → ℕ
last_stop p [] = p
last_stop p (q ∷ qs) = last_stop q qs

-- what the matcher answers to end places
abbrev pub found_of : ℕ → Option (List ℕ) → CodeOption ℕ
found_of p none = None
found_of p (some qs) = Some (last_stop p qs)

-- the ends hold the end places, from the item at `at` on
abbrev pub Ended : List ℕ → ℕ → List Piece → Option (List ℕ) → Type 0
Ended ends at es none = Unit {0}
Ended ends at es (some qs) = EndsFrom ends at es qs

-- the answer r, with the ends, says the end places a of the pieces es, whose items begin at `at`
pub record Said (es : List Piece) (a : Option (List ℕ)) (at p : ℕ) (ends : List ℕ) (r : CodeOption ℕ) : Type 0 where
  pub found : r ≡ found_of p a
  pub ended : Ended ends at es a

-- what stays as it is while matching
pub record Given (items kinds b t : List ℕ) : Type 0 where
  pub fits : length items ≤ body_bytes
  pub table : kinds ≡ kind_table
  pub state : IsState b
  pub short : length t ≤ most_line_bytes

-- what changes
pub record Noted (items b t marks ends : List ℕ) : Type 0 where
  pub size : length marks ≡ rows_bytes items
  pub count : length ends ≡ body_bytes
  pub inside : (i : ℕ) → get_or ends i 0 ≤ length t
  pub sound : Sound items b t marks

-- what trying the pieces at `at` at place p asks
pub record Trying (items kinds b t : List ℕ) (at p : ℕ) (marks ends : List ℕ) : Type 0 where
  pub given : Given items kinds b t
  pub noted : Noted items b t marks ends
  pub pieces : List Piece
  pub is : IsRest items at pieces
  pub place : p ≤ length t

-- n copies in a row from q on, each w bytes wide
pub record Row (items b t : List ℕ) (at w q n : ℕ) : Type 0 where
  pub inside : q + n * w ≤ length t
  pub copies : (u : PatternUnit) (c : Closure) (es : List Piece) → IsRest items at (element u c ∷ es)
      → OfState b (λ st. (width st u ≡ w) × ((i : ℕ) → i < n → fits st u (drop (q + i * w) t) ≡ true))

-- copies past r have no division: what is chosen from r on are the pieces behind the element
abbrev pub Furthest : (items b t : List ℕ) (at r : ℕ) → Type 0
Furthest items b t at r =
    (u : PatternUnit) (c : Closure) (es : List Piece) → IsRest items at (element u c ∷ es)
    → OfState b (λ st. after st u es t r ≡ then_p r (answer st es t r))

-- what counting the copies of a unit asks
pub record Counting (items kinds b t : List ℕ) (at : ℕ) (u : CodeUnit) (w q : ℕ) (marks : List ℕ) : Type 0 where
  pub given : Given items kinds b t
  pub size : length marks ≡ rows_bytes items
  pub sound : Sound items b t marks
  pub unit : IsUnit items at u
  pub wide : Wide b u w
  pub some : 1 ≤ w
  pub place : q ≤ length t

-- a row of n copies past which there is no division
pub record Most (items b t : List ℕ) (at w q n : ℕ) : Type 0 where
  pub row : Row items b t at w q n
  pub furthest : Furthest items b t at (q + n * w)

-- what trying up to n copies asks
pub record Repeating (items kinds b t : List ℕ) (at next w q n : ℕ) (marks ends : List ℕ) : Type 0 where
  pub given : Given items kinds b t
  pub noted : Noted items b t marks ends
  pub stands : Stands items at
  pub behind : OfPiece items at (λ e. next ≡ at + length (piece_items e))
  pub some : 1 ≤ w
  pub most : Most items b t at w q n

-- only the marks of the items change
pub record Kept (items b t marks marks' ends' : List ℕ) : Type 0 where
  pub noted : Noted items b t marks' ends'
  pub outside : drop (66 * length items) marks' ≡ drop (66 * length items) marks

-- what trying the pieces at `at` at place p says
pub record Tried (items b t : List ℕ) (at p : ℕ) (marks marks' ends' : List ℕ) (r : CodeOption ℕ) : Type 0 where
  pub said : (es : List Piece) → IsRest items at es → OfState b (λ st. Said es (answer st es t p) at p ends' r)
  pub kept : Kept items b t marks marks' ends'

-- what trying the copies from q on says
pub record Copied (items b t : List ℕ) (at q : ℕ) (marks marks' ends' : List ℕ) (r : CodeOption ℕ) : Type 0 where
  pub said : (u : PatternUnit) (c : Closure) (es : List Piece) → IsRest items at (element u c ∷ es)
      → OfState b (λ st. Said (element u c ∷ es) (after st u es t q) at q ends' r)
  pub kept : Kept items b t marks marks' ends'

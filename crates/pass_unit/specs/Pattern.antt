-- The items of a pattern, and what of it begins at a place.
use Rattle.std.specs.Prelude.{ℕ, ◌≡◌, List, [], ◌∷◌, ◌++◌, length}
use Rattle.macros.specs.Macro.{Piece}
use Rattle.macros.specs.Macro.Piece.{element, start, end, left, right}
use Rattle.macros.specs.Formed.{FormedUnit}
use Rattle.form_table.specs.Form.{pattern_items}

abbrev pub FormedUnits : List Piece → Type 0
FormedUnits [] = Unit {0}
FormedUnits (element u c ∷ es) = FormedUnit u × FormedUnits es
FormedUnits (start ∷ es) = FormedUnits es
FormedUnits (end ∷ es) = FormedUnits es
FormedUnits (left ∷ es) = FormedUnits es
FormedUnits (right ∷ es) = FormedUnits es

-- the items are those of the pieces es
pub record IsPattern (items : List ℕ) (es : List Piece) : Type 0 where
  pub formed : FormedUnits es
  pub form : pattern_items es ≡ items

-- at the place `at` of the items those of the pieces es begin
pub record IsRest (items : List ℕ) (at : ℕ) (es : List Piece) : Type 0 where
  pub prior : List Piece
  pub whole : IsPattern items (prior ++ es)
  pub place : length (pattern_items prior) ≡ at

-- a claim about every piece that begins at the place
abbrev pub OfPiece : List ℕ → ℕ → (Piece → Type 0) → Type 0
OfPiece items at claim = (e : Piece) (es : List Piece) → IsRest items at (e ∷ es) → claim e

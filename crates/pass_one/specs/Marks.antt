-- What the marks of failed pairs of a closure and a place say.
use Rattle.std.specs.Prelude.{ℕ, ◌*◌, ◌≤◌, ◌≡◌, List, [], ◌∷◌, length, drop}
use Rattle.std.proofs.Math.Option.{Option, none}
use Rattle.macros.specs.Macro.{Closure, PatternUnit, Piece}
use Rattle.macros.specs.Macro.PatternUnit.{literal, kind, class, call_of}
use Rattle.macros.specs.Macro.Piece.{element, start, end, left, right}
use Rattle.lines.specs.State.{State, contents}
use Rattle.lines.specs.Matching.{Division, fits, width}
use Rattle.lines.specs.Choosing.{more, chosen}
use Rattle.form_state.specs.Access.{Holds}
use Rattle.pass_marks.specs.Marks.{mark}
use Rattle.pass_unit.specs.Pattern.{IsRest}

-- the marks of a pattern: for each item, two bytes, a row of 132 bytes, 1,056 bits, for at most 1,055 places
abbrev pub rows_bytes : List ℕ → ℕ
rows_bytes items = 66 * length items

-- more copies of u from q on, as many as there can be, and then the pieces es
abbrev pub copies_from : State → PatternUnit → List Piece → List ℕ → ℕ → Option Division
copies_from st u es t q = more (fits st u) (width st u) (chosen st es) (drop q t) 0 q (drop q t)

-- every mark says truly that there is no division
unfoldable pub Sound : (items b t marks : List ℕ) → Type 0
Sound items b t marks =
    (at q : ℕ) → q ≤ 1055 → mark marks at q ≡ 1
    → (u : PatternUnit) (c : Closure) (es : List Piece) → IsRest items at (element u c ∷ es)
    → (st : State) → Holds b st → copies_from st u es t q ≡ none

-- every call of the pieces stands for the same text in both states
abbrev pub Agree : State → State → List Piece → Type 0
Agree st st' [] = Unit {0}
Agree st st' (element (call_of m i) c ∷ es) = (contents st m i ≡ contents st' m i) × Agree st st' es
Agree st st' (element (literal b) c ∷ es) = Agree st st' es
Agree st st' (element (kind n) c ∷ es) = Agree st st' es
Agree st st' (element (class neg ms) c ∷ es) = Agree st st' es
Agree st st' (start ∷ es) = Agree st st' es
Agree st st' (end ∷ es) = Agree st st' es
Agree st st' (left ∷ es) = Agree st st' es
Agree st st' (right ∷ es) = Agree st st' es

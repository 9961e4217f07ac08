-- A piece as the code has it: a unit with a closure. A brace is an empty unit that fits everywhere, `^` and `$` are empty units.
use Rattle.std.specs.Prelude.{ℕ, ◌+◌, ◌≤◌, ◌≡◌, Bool, true, false, Option, Some, None, List, [], ◌∷◌, ◌++◌, eqb, ltb, length, drop}
use Rattle.kinds.specs.Kind.{kind_of, kind_table}
use Rattle.macros.specs.Macro.{Member, Piece, pick}
use Rattle.macros.specs.Macro.Mark.{stack, counter}
use Rattle.macros.specs.Macro.PatternUnit.{literal, kind, class, call_of}
use Rattle.macros.specs.Macro.Piece.{element, start, end, left, right}
use Rattle.macros.specs.Formed.{Letter}
use Rattle.form_table.specs.Form.{members_items}
use Rattle.lines.specs.State.{State}
use Rattle.lines.specs.Matching.{in_class, fits, width}
use Rattle.lines.specs.Choosing.{is_end}
use Rattle.form_state.specs.Access.{IsState, OfState}
use Rattle.pass_unit.specs.Pattern.{IsRest, OfPiece}
use Rattle.form_element.specs.Element.{code_unit, closure_of}
use Rattle.form_element.specs.declared.Element.{Element}
use Rattle.form_element.specs.declared.Unit.{Unit as CodeUnit}
use Rattle.form_element.specs.declared.Unit.TheVariants.{Literal, Kind, Class, ClassNot, StackCall, CounterCall, Start, End, Left, Right}
use Rattle.form_element.specs.declared.Closure.{Closure as CodeClosure}
use Rattle.form_element.specs.declared.Closure.TheVariants.{Once, OneOrMore, ZeroOrMore}

-- the members of a piece that is a class; another has none
abbrev pub members_of : Piece → List Member
members_of (element (literal b) c) = []
members_of (element (kind n) c) = []
members_of (element (class neg ms) c) = ms
members_of (element (call_of m i) c) = []
members_of start = []
members_of end = []
members_of left = []
members_of right = []

-- A COPY AND ITS WIDTH; ms: the members, if the unit is a class

-- whether the byte is a copy of a unit that is one byte wide
abbrev pub holds : CodeUnit → List Member → ℕ → Bool
holds (Literal c) ms = eqb c
holds (Kind n) ms = kind_of n
holds Class ms = in_class false ms
holds ClassNot ms = in_class true ms
holds (StackCall i) ms = λ b. false
holds (CounterCall i) ms = λ b. false
holds Start ms = λ b. false
holds End ms = λ b. false
holds Left ms = λ b. false
holds Right ms = λ b. false

abbrev pub fit_u : State → CodeUnit → List Member → ℕ → List ℕ → Bool
fit_u st (Literal c) ms p = fits st (literal c)
fit_u st (Kind n) ms p = fits st (kind n)
fit_u st Class ms p = fits st (class false ms)
fit_u st ClassNot ms p = fits st (class true ms)
fit_u st (StackCall i) ms p = fits st (call_of stack i)
fit_u st (CounterCall i) ms p = fits st (call_of counter i)
fit_u st Start ms p = λ s. eqb p 0
fit_u st End ms p = is_end
fit_u st Left ms p = λ s. true
fit_u st Right ms p = λ s. true

abbrev pub width_u : State → CodeUnit → ℕ
width_u st (Literal c) = width st (literal c)
width_u st (Kind n) = width st (kind n)
width_u st Class = 1
width_u st ClassNot = 1
width_u st (StackCall i) = width st (call_of stack i)
width_u st (CounterCall i) = width st (call_of counter i)
width_u st Start = 0
width_u st End = 0
width_u st Left = 0
width_u st Right = 0

-- the place behind a copy that must stand at p, and behind the copies that a closure must have there
unfoldable pub led_to : Bool → ℕ → Option ℕ
led_to fit q = pick fit (Some q) None

abbrev pub lead_of : CodeClosure → Bool → ℕ → ℕ → Option ℕ
lead_of Once fit w p = led_to fit (p + w)
lead_of OneOrMore fit w p = led_to fit (p + w)
lead_of ZeroOrMore fit w p = Some p

-- whether further copies can follow: "an empty entry counts once under `*` and no times under `*-`"
abbrev pub again : CodeClosure → ℕ → Bool
again Once w = false
again OneOrMore w = ltb 0 w
again ZeroOrMore w = ltb 0 w

-- WHAT THE FUNCTIONS ASK AND SAY

abbrev pub Lettered : CodeUnit → Type 0
Lettered (Literal c) = Unit {0}
Lettered (Kind n) = Unit {0}
Lettered Class = Unit {0}
Lettered ClassNot = Unit {0}
Lettered (StackCall i) = Letter i
Lettered (CounterCall i) = Letter i
Lettered Start = Unit {0}
Lettered End = Unit {0}
Lettered Left = Unit {0}
Lettered Right = Unit {0}

-- a piece begins at the place
pub record Stands (items : List ℕ) (at : ℕ) : Type 0 where
  pub piece : Piece
  pub pieces : List Piece
  pub is : IsRest items at (piece ∷ pieces)

-- u is the unit of the piece there
pub record IsUnit (items : List ℕ) (at : ℕ) (u : CodeUnit) : Type 0 where
  pub stands : Stands items at
  pub unit : OfPiece items at (λ e. code_unit e ≡ u)
  pub letter : Lettered u

pub record IsElement (items : List ℕ) (at : ℕ) (x : Element) : Type 0 where
  pub unit : IsUnit items at x.unit
  pub closure : OfPiece items at (λ e. closure_of e ≡ x.closure)

-- members and what follows them begin at the place
abbrev pub Members : List ℕ → ℕ → List Member → List ℕ → Type 0
Members items i ms r = members_items ms ++ r ≡ drop i items

pub record SomeMembers (items : List ℕ) (i : ℕ) : Type 0 where
  pub members : List Member
  pub behind : List ℕ
  pub is : Members items i members behind

abbrev pub OfMembers : List ℕ → ℕ → (List Member → Type 0) → Type 0
OfMembers items i claim = (ms : List Member) (r : List ℕ) → Members items i ms r → claim ms

-- the same of the first of them
pub record FirstMember (items : List ℕ) (i : ℕ) : Type 0 where
  pub member : Member
  pub members : List Member
  pub behind : List ℕ
  pub is : Members items i (member ∷ members) behind

abbrev pub OfFirst : List ℕ → ℕ → (Member → Type 0) → Type 0
OfFirst items i claim = (m : Member) (ms : List Member) (r : List ℕ) → Members items i (m ∷ ms) r → claim m

-- what a test of a copy asks
pub record OneByte (items kinds : List ℕ) (at : ℕ) (u : CodeUnit) : Type 0 where
  pub unit : IsUnit items at u
  pub table : kinds ≡ kind_table

pub record Copying (items kinds b t : List ℕ) (at : ℕ) (u : CodeUnit) (p : ℕ) : Type 0 where
  pub unit : IsUnit items at u
  pub table : kinds ≡ kind_table
  pub state : IsState b
  pub place : p ≤ length t

-- every copy of u is w bytes wide
abbrev pub Wide : List ℕ → CodeUnit → ℕ → Type 0
Wide b u w = OfState b (λ st. w ≡ width_u st u)

pub record Leading (items kinds b t : List ℕ) (at : ℕ) (u : CodeUnit) (w p : ℕ) : Type 0 where
  pub copying : Copying items kinds b t at u p
  pub wide : Wide b u w

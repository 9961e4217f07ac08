-- An element as the code has it, the piece of a pattern that it stands for, and its item.
use Rattle.std.specs.Prelude.{ℕ, ◌%◌, ◌≡◌, true, false, List, [], ◌++◌, eqb, ltb, drop, take}
use Rattle.macros.specs.Macro.{Closure, PatternUnit, Piece, pick}
use Rattle.macros.specs.Macro.Closure.{once, one_or_more, zero_or_more}
use Rattle.macros.specs.Macro.Mark.{stack, counter}
use Rattle.macros.specs.Macro.PatternUnit.{literal, kind, class, call_of}
use Rattle.macros.specs.Macro.Piece.{element, start, end, left, right}
use Rattle.form_table.specs.Form.{piece_items}
use Rattle.form_element.specs.declared.Element.{Element}
use Rattle.form_element.specs.declared.Unit.{Unit as CodeUnit}
use Rattle.form_element.specs.declared.Unit.TheVariants.{Literal, Kind, Class, ClassNot, StackCall}
use Rattle.form_element.specs.declared.Unit.TheVariants.{CounterCall, Start, End, Left, Right}
use Rattle.form_element.specs.declared.Closure.{Closure as CodeClosure}
use Rattle.form_element.specs.declared.Closure.TheVariants.{Once, OneOrMore, ZeroOrMore}

-- FROM A PIECE TO ITS ELEMENT

-- the code's unit; a class keeps its members elsewhere
abbrev pub unit_of : PatternUnit → CodeUnit
unit_of (literal b) = Literal b
unit_of (kind n) = Kind n
unit_of (class false ms) = Class
unit_of (class true ms) = ClassNot
unit_of (call_of stack i) = StackCall i
unit_of (call_of counter i) = CounterCall i

-- the code's closure
abbrev pub code_closure : Closure → CodeClosure
code_closure once = Once
code_closure one_or_more = OneOrMore
code_closure zero_or_more = ZeroOrMore

-- the unit of a piece: `^`, `$` and the braces are units of their own
abbrev pub code_unit : Piece → CodeUnit
code_unit (element u c) = unit_of u
code_unit start = Start
code_unit end = End
code_unit left = Left
code_unit right = Right

-- the closure of a piece: only an element can have one
abbrev pub closure_of : Piece → CodeClosure
closure_of (element u c) = code_closure c
closure_of start = Once
closure_of end = Once
closure_of left = Once
closure_of right = Once

-- the element of a piece
abbrev pub element_of : Piece → Element
element_of p = record { unit = code_unit p; closure = closure_of p }

-- FROM AN ELEMENT TO ITS ITEM

-- the closure that the code's stands for
abbrev pub closure_from : CodeClosure → Closure
closure_from Once = once
closure_from OneOrMore = one_or_more
closure_from ZeroOrMore = zero_or_more

-- the piece of a unit and its closure, a class without its members
abbrev pub piece_from : CodeUnit → Closure → Piece
piece_from (Literal b) c = element (literal b) c
piece_from (Kind n) c = element (kind n) c
piece_from Class c = element (class false []) c
piece_from ClassNot c = element (class true []) c
piece_from (StackCall i) c = element (call_of stack i) c
piece_from (CounterCall i) c = element (call_of counter i) c
piece_from Start c = start
piece_from End c = end
piece_from Left c = left
piece_from Right c = right

-- the item of an element: the first of its piece's
unfoldable pub item_of : Element → List ℕ
item_of e = take 2 (piece_items (piece_from e.unit (closure_from e.closure)))

-- FROM AN ITEM TO ITS ELEMENT

-- the items of some piece begin at the place
pub record SomePiece (items : List ℕ) (at : ℕ) : Type 0 where
  pub piece : Piece
  pub behind : List ℕ
  pub is : piece_items piece ++ behind ≡ drop at items

-- a claim about any piece whose items begin at the place
abbrev pub AnyPiece : List ℕ → ℕ → (Piece → Type 0) → Type 0
AnyPiece items at claim = (p : Piece) (r : List ℕ) → piece_items p ++ r ≡ drop at items → claim p

-- the unit of a code that has no closure
unfoldable pub sign_at : ℕ → CodeUnit
sign_at c = pick (eqb c 3) Start (pick (eqb c 4) End (pick (eqb c 1) Left Right))

-- the unit of an item's code and operand
unfoldable pub unit_at : ℕ → ℕ → CodeUnit
unit_at c b =
    pick (ltb c 8) (sign_at c)
    (pick (ltb c 12) (Literal b)
    (pick (ltb c 16) (Kind b)
    (pick (ltb c 20) (StackCall b)
    (pick (ltb c 24) (CounterCall b)
    (pick (ltb c 28) Class ClassNot)))))

-- the closure of an item's code
unfoldable pub closure_at : ℕ → CodeClosure
closure_at c = pick (ltb c 8) Once (pick (eqb (c % 4) 1) OneOrMore (pick (eqb (c % 4) 2) ZeroOrMore Once))

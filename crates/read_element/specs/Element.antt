-- What the answers about an element say of the machine, behind any pieces read before.
use Rattle.std.specs.Prelude.{ℕ, ◌+◌, ◌-◌, ◌*◌, ◌≤◌, ◌<◌, ◌≡◌, Bool, true, false, List, [], ◌∷◌, eqb, length, Result, Ok, Err}
use Rattle.macros.specs.Macro.{Closure, Member, Mark, PatternUnit, Piece, pick}
use Rattle.macros.specs.Macro.Mark.{stack, counter}
use Rattle.macros.specs.Macro.PatternUnit.{class}
use Rattle.macros.specs.Macro.Piece.{element, start, end, left, right}
use Rattle.macros.specs.Read.{Part, Prior}
use Rattle.macros.specs.ReadSoFar.Joinable.{nothing, unit, query, marked}
use Rattle.macros.specs.ReadSoFar.Last.{free}
use Rattle.macros.specs.ReadSoFar.Part.{pattern, members, pattern_call}
use Rattle.read_scan.specs.Scan.MacroRead.{refused_at}
use Rattle.form_table.specs.Form.{unit_rest, piece_items}
use Rattle.form_element.specs.Element.{unit_of, code_closure, element_of}
use Rattle.read_scan.specs.Scan.{fault_of, run, Reached}
use Rattle.form_items.specs.Items.{Wrote}
use Rattle.read_scan.specs.declared.ReadError.{ReadError}
use Rattle.form_element.specs.declared.Unit.{Unit as CodeUnit}
use Rattle.form_element.specs.declared.Unit.TheVariants.{Literal, Kind, Class, ClassNot, StackCall, CounterCall, Start, End, Left, Right}
use Rattle.form_element.specs.declared.Closure.{Closure as CodeClosure}
use Rattle.form_element.specs.declared.Element.{Element}
use Rattle.read_ends.specs.Ends.{Ended, Zeroed}
use Rattle.read_element.specs.declared.Item.{Item}

-- an element, the place behind it and the end of what is written of it
abbrev pub got_item : CodeUnit → CodeClosure → ℕ → ℕ → Item
got_item u c q n = record { element = record { unit = u; closure = c }; place = q; end = n }

-- the mark that the sign `&` or `#` is
abbrev pub mark_at : ℕ → Mark
mark_at b = pick (eqb b 38) stack counter

-- e is u with the closure that is read from place p up to q, behind any unit
pub record Joined (s : List ℕ) (a p : ℕ) (u : CodeUnit) (e : Element) (q : ℕ) : Type 0 where
  pub further : p ≤ q
  pub reached : Reached s a q
  pub its : Closure
  pub same : e ≡ record { unit = u; closure = code_closure its }
  pub answer : (v : PatternUnit) (ps : List Piece) (pr : Prior)
      → run s a pr false p (pattern (unit v) ps) ≡ run s a pr false q (pattern nothing (element v its ∷ ps))

-- the element with its closure, or the refusal
abbrev pub JoinsBy : List ℕ → ℕ → ℕ → CodeUnit → ℕ → Result Item ReadError → Type 0
JoinsBy s a p u n (Ok i) = (i.end ≡ n) × Joined s a p u i.element i.place
JoinsBy s a p u n (Err e) =
    (e.place ≤ length s) × ((v : PatternUnit) (ps : List Piece) (pr : Prior)
    → run s a pr false p (pattern (unit v) ps) ≡ refused_at (fault_of e.fault) e.place)

-- what reading a closure from p on says, by the answer
pub record Joins (s : List ℕ) (a p : ℕ) (u : CodeUnit) (n : ℕ) (r : Result Item ReadError) : Type 0 where
  pub is : JoinsBy s a p u n r

-- from the state F at p the machine reads the element e up to q, at v or further; what stands behind its item is written from n up to m
pub record Made (s : List ℕ) (a p v : ℕ) (F : List Piece → Part) (old out : List ℕ) (n : ℕ) (e : Element) (q m : ℕ) : Type 0 where
  pub its_unit : PatternUnit
  pub its_closure : Closure
  pub same : e ≡ element_of (element its_unit its_closure)
  pub further : v ≤ q
  pub reached : Reached s a q
  pub room : m ≤ n + 2 * (q - v)
  pub answer : (ps : List Piece) (pr : Prior)
      → run s a pr false p (F ps) ≡ run s a pr false q (pattern nothing (element its_unit its_closure ∷ ps))
  pub wrote : Wrote old out n (unit_rest its_unit)
  pub used : m ≡ n + length (unit_rest its_unit)

-- the element and what is written behind its item, or the refusal
abbrev pub MakesBy : List ℕ → ℕ → ℕ → ℕ → (List Piece → Part) → List ℕ → List ℕ → ℕ → Result Item ReadError → Type 0
MakesBy s a p v F old out n (Ok i) = Made s a p v F old out n i.element i.place i.end
MakesBy s a p v F old out n (Err e) =
    (e.place ≤ length s) × ((ps : List Piece) (pr : Prior) → run s a pr false p (F ps) ≡ refused_at (fault_of e.fault) e.place)

-- what reading an element from the state F at p on says, by the answer
pub record Makes (s : List ℕ) (a p v : ℕ) (F : List Piece → Part) (old out : List ℕ) (n : ℕ) (r : Result Item ReadError) : Type 0 where
  pub is : MakesBy s a p v F old out n r

-- the same of an element that has nothing behind its item, whatever the lent bytes are
abbrev pub MakesOne : List ℕ → ℕ → ℕ → (List Piece → Part) → ℕ → Result Item ReadError → Type 0
MakesOne s a p F n r = (out : List ℕ) → Makes s a p p F out out n r

-- the state behind `?`
abbrev pub at_query : List Piece → Part
at_query ps = pattern query ps

-- the state behind `&` or `#`
abbrev pub at_mark : ℕ → List Piece → Part
at_mark b ps = pattern (marked (mark_at b)) ps

-- the state behind `&(` or `#(`
abbrev pub at_call : ℕ → List Piece → Part
at_call b ps = pattern_call (mark_at b) ps

-- the state at the first member of a class
abbrev pub at_class : Bool → List Piece → Part
at_class neg ps = members ps neg free []

-- the state where a byte joins nothing
abbrev pub at_fresh : List Piece → Part
at_fresh ps = pattern nothing ps

-- whether the code's unit is a complement
abbrev pub neg_of : CodeUnit → Bool
neg_of (Literal b) = false
neg_of (Kind n) = false
neg_of Class = false
neg_of ClassNot = true
neg_of (StackCall i) = false
neg_of (CounterCall i) = false
neg_of Start = false
neg_of End = false
neg_of Left = false
neg_of Right = false

-- that the code's unit is a class
abbrev pub IsClass : CodeUnit → Type 0
IsClass u = (xs : List Member) → unit_of (class (neg_of u) xs) ≡ u

-- a byte that neither ends a run of pieces nor opens a tag
abbrev pub Inner : ℕ → Type 0
Inner b = (b ≡ 39 → ⊥) × (b ≡ 123 → ⊥) × (b ≡ 125 → ⊥)

-- an element, and not a brace
abbrev pub IsElement : Piece → Type 0
IsElement (element u c) = Unit {0}
IsElement start = Unit {0}
IsElement end = Unit {0}
IsElement left = ⊥
IsElement right = ⊥

-- an element, `^` or `$` from p up to q, with its items written from n up to m
pub record Pieced (s : List ℕ) (a p : ℕ) (old out : List ℕ) (n q m : ℕ) : Type 0 where
  pub piece : Piece
  pub counts : IsElement piece
  pub further : p < q
  pub reached : Reached s a q
  pub room : m ≤ n + 2 * (q - p)
  pub answer : (ps : List Piece) (pr : Prior)
      → run s a pr false p (pattern nothing ps) ≡ run s a pr false q (pattern nothing (piece ∷ ps))
  pub wrote : Wrote old out n (piece_items piece)
  pub used : m ≡ n + length (piece_items piece)

-- the piece with its items, or the refusal
abbrev pub PiecesBy : List ℕ → ℕ → ℕ → List ℕ → List ℕ → ℕ → Ended → Type 0
PiecesBy s a p old out n (Ok (q, m)) = Pieced s a p old out n q m
PiecesBy s a p old out n (Err e) =
    (e.place ≤ length s) × ((ps : List Piece) (pr : Prior) → run s a pr false p (pattern nothing ps) ≡ refused_at (fault_of e.fault) e.place)

-- what reading one piece from p on says, by the answer
pub record Pieces (s : List ℕ) (a p : ℕ) (old out : List ℕ) (n : ℕ) (r : Ended) : Type 0 where
  pub is : PiecesBy s a p old out n r

-- what reading it says of the answer and of all lent bytes
pub record PieceRead (s : List ℕ) (a p : ℕ) (old out : List ℕ) (n : ℕ) (r : Ended) : Type 0 where
  pub from : Pieces s a p old out n r
  pub zeros : Zeroed old out r

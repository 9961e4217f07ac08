-- 01, part 2: a macro as data. What it keeps of its spelling is no more than this.
use Rattle.std.specs.Prelude.{ℕ, suc, ◌-◌, Bool, true, false, ◌&&◌, ◌||◌, List, [], ◌∷◌, leb, eqb}
use Prim.Native.Char.{code}

-- none; `*`, one or more; `*-`, zero or more
pub data Closure : Type 0 where
  once one_or_more zero_or_more : Closure

-- a member c alone, or a range
pub data Member : Type 0 where
  single : ℕ → Member
  range : ℕ → ℕ → Member

-- `&` or `#`: what a call is of
pub data Mark : Type 0 where
  stack counter : Mark

-- what a closure may follow: a literal; `?` with 1 to 6; a class, true if it is the complement; a call `&(i)` or `#(i)`
pub data PatternUnit : Type 0 where
  literal : ℕ → PatternUnit
  kind : ℕ → PatternUnit
  class : Bool → List Member → PatternUnit
  call_of : Mark → ℕ → PatternUnit

-- an element (a unit with its closure; `^`; `$`) or one of a tag's braces
pub data Piece : Type 0 where
  element : PatternUnit → Closure → Piece
  start end left right : Piece

-- `+` or `-`
pub data Sign : Type 0 where
  plus minus : Sign

-- the pointer or counter stays, or moves before or after the access
pub data Move : Type 0 where
  still : Move
  before after : Sign → Move

-- a call, i the letter of its stack or counter and n its number
pub data Call : Type 0 where
  -- `&(i)` and `#(i)`
  insert : Mark → ℕ → Move → Call
  -- `&(n,i)`
  store_tag : ℕ → ℕ → Move → Call
  -- `&(i=n)` and `#(i=n)`
  set_to : Mark → ℕ → ℕ → Call
  -- `&(i:text:)`
  store_text : ℕ → Move → List ℕ → Call
  -- `#(i,n)`
  set_increment : ℕ → ℕ → Call
  -- 02, N7: `#(i:n)`
  divide : ℕ → ℕ → Call

-- a part of a replacement: a literal byte, `{n}` or a call
pub data Action : Type 0 where
  text : ℕ → Action
  tag : ℕ → Action
  call : Call → Action

-- `=` or `<`
pub data Symbol : Type 0 where
  equal less : Symbol

-- before: the calls before its pattern (02, N2)
pub record Macro : Type 0 where
  pub before : List Call
  pub pattern : List Piece
  pub symbol : Symbol
  pub replacement : List Action
  pub commands : List Call

-- the macros, oldest first
abbrev pub Table : Type 0
Table = List Macro

-- TESTS THAT THE OTHER DEFINITIONS SHARE

-- a where the test holds, else b
unfoldable pub pick {ℓ} : {A : Type ℓ} → Bool → A → A → A
pick true a b = a
pick false a b = b

-- the byte is in the list
unfoldable pub among : List ℕ → ℕ → Bool
among [] b = false
among (x ∷ xs) b = eqb b x || among xs b

-- the byte is one of a to z
unfoldable pub within : ℕ → ℕ → ℕ → Bool
within a z b = leb a b && leb b z

-- `A` to `Z`
unfoldable pub ascii_upper : ℕ → Bool
ascii_upper = within (code "A") (code "Z")

-- `a` to `z`
unfoldable pub ascii_lower : ℕ → Bool
ascii_lower = within (code "a") (code "z")

-- `0` to `9`
unfoldable pub digit : ℕ → Bool
digit = within (code "0") (code "9")

-- "Range ends are both lower, both upper or both digits, rising or equal."
unfoldable pub is_range : ℕ → ℕ → Bool
is_range a z = (digit a && digit z || (ascii_upper a && ascii_upper z || ascii_lower a && ascii_lower z)) && leb a z

-- the byte of a mark
unfoldable pub mark_byte : Mark → ℕ
mark_byte stack = code "&"
mark_byte counter = code "#"

-- the tags of a pattern, or of a part of one, in either order
unfoldable pub tags : List Piece → ℕ
tags [] = 0
tags (element u c ∷ ps) = tags ps
tags (start ∷ ps) = tags ps
tags (end ∷ ps) = tags ps
tags (left ∷ ps) = suc (tags ps)
tags (right ∷ ps) = tags ps

-- the elements; braces are none
unfoldable pub elements : List Piece → ℕ
elements [] = 0
elements (element u c ∷ ps) = suc (elements ps)
elements (start ∷ ps) = suc (elements ps)
elements (end ∷ ps) = suc (elements ps)
elements (left ∷ ps) = elements ps
elements (right ∷ ps) = elements ps

-- the braces that are open behind the pieces, these newest first
unfoldable pub depth : List Piece → ℕ
depth [] = 0
depth (element u c ∷ ps) = depth ps
depth (start ∷ ps) = depth ps
depth (end ∷ ps) = depth ps
depth (left ∷ ps) = suc (depth ps)
depth (right ∷ ps) = depth ps - 1

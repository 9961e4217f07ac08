-- The form of a table as bytes: 96 slots of 1,024 bytes, oldest macro first; unused bytes are zero.
-- A slot: its symbol (1 for `<`, 2 for `=`), its tags, the lengths of its four parts (two bytes each, low byte first),
-- then the calls before its pattern, pattern, replacement and commands in items of two bytes, and zeros.
use Rattle.std.specs.Prelude.{ℕ, zero, suc, ◌+◌, ◌-◌, ◌*◌, ◌/◌, ◌%◌, Bool, true, false, List, [], ◌∷◌, ◌++◌, eqb, length, replicate}
use Rattle.form_bytes.specs.Fours.{four}
use Rattle.macros.specs.Bounds.{most_macros}
use Rattle.macros.specs.Macro.{Closure, Member, Mark, PatternUnit, Piece, Sign, Move, Call, Action, Symbol, Macro, Table, pick, tags}
use Rattle.macros.specs.Macro.Closure.{once, one_or_more, zero_or_more}
use Rattle.macros.specs.Macro.Member.{single, range}
use Rattle.macros.specs.Macro.Mark.{stack, counter}
use Rattle.macros.specs.Macro.PatternUnit.{literal, kind, class, call_of}
use Rattle.macros.specs.Macro.Piece.{element, start, end, left, right}
use Rattle.macros.specs.Macro.Sign.{plus, minus}
use Rattle.macros.specs.Macro.Move.{still, before, after}
use Rattle.macros.specs.Macro.Call.{insert, store_tag, set_to, store_text, set_increment, divide}
use Rattle.macros.specs.Macro.Action.{text, tag, call}
use Rattle.macros.specs.Macro.Symbol.{equal, less}

-- the bytes of a slot
abbrev pub slot_bytes : ℕ
slot_bytes = 1024

-- the bytes of a slot's symbol, tags and lengths
abbrev pub header_bytes : ℕ
header_bytes = 10

-- the bytes of a slot behind its lengths
abbrev pub body_bytes : ℕ
body_bytes = 1014

-- the bytes of a table's memory
abbrev pub table_bytes : ℕ
table_bytes = 98304

-- PATTERN: an element is one item, four times its unit's code and its closure's; a class has its members and an end behind it

-- a closure's code
unfoldable pub closure_code : Closure → ℕ
closure_code once = 0
closure_code one_or_more = 1
closure_code zero_or_more = 2

-- a unit's code
unfoldable pub unit_code : PatternUnit → ℕ
unit_code (literal b) = 2
unit_code (kind n) = 3
unit_code (call_of stack i) = 4
unit_code (call_of counter i) = 5
unit_code (class false ms) = 6
unit_code (class true ms) = 7

-- the operand of an element's item: its byte, kind or letter; a class has none
unfoldable pub unit_operand : PatternUnit → ℕ
unit_operand (literal b) = b
unit_operand (kind n) = n
unit_operand (call_of m i) = i
unit_operand (class neg ms) = 0

-- a class's member
unfoldable pub member_items : Member → List ℕ
member_items (single c) = 32 ∷ c ∷ []
member_items (range a z) = 33 ∷ a ∷ 34 ∷ z ∷ []

-- its members, in the order read, and their end
unfoldable pub members_items : List Member → List ℕ
members_items [] = 35 ∷ 0 ∷ []
members_items (m ∷ ms) = member_items m ++ members_items ms

-- what stands behind an element's item
unfoldable pub unit_rest : PatternUnit → List ℕ
unit_rest (literal b) = []
unit_rest (kind n) = []
unit_rest (call_of m i) = []
unit_rest (class neg ms) = members_items ms

-- a piece of a pattern
unfoldable pub piece_items : Piece → List ℕ
piece_items left = 1 ∷ 0 ∷ []
piece_items right = 2 ∷ 0 ∷ []
piece_items start = 3 ∷ 0 ∷ []
piece_items end = 4 ∷ 0 ∷ []
piece_items (element u c) = (4 * unit_code u + closure_code c) ∷ unit_operand u ∷ unit_rest u

-- a pattern
unfoldable pub pattern_items : List Piece → List ℕ
pattern_items [] = []
pattern_items (p ∷ ps) = piece_items p ++ pattern_items ps

-- CALLS: one item, eight times the call's code and its move's, with its letter; then its number or text

-- a move's code
unfoldable pub move_code : Move → ℕ
move_code still = 0
move_code (before plus) = 1
move_code (before minus) = 2
move_code (after plus) = 3
move_code (after minus) = 4

-- a number below 2^16 in two bytes, low byte first; `four` of crates/form_bytes is one below 2^32 in four
unfoldable pub two : ℕ → List ℕ
two n = n % 256 ∷ n / 256 ∷ []

-- a text, with a zero behind it where its length is odd
unfoldable pub evened : List ℕ → List ℕ
evened t = t ++ pick (eqb (length t % 2) 0) [] (0 ∷ [])

-- a call
unfoldable pub call_items : Call → List ℕ
call_items (insert stack i v) = (48 + move_code v) ∷ i ∷ []
call_items (insert counter i v) = (56 + move_code v) ∷ i ∷ []
call_items (store_tag n i v) = (64 + move_code v) ∷ i ∷ 42 ∷ n ∷ []
call_items (store_text i v t) = (72 + move_code v) ∷ i ∷ 43 ∷ length t ∷ evened t
call_items (set_to stack i n) = 80 ∷ i ∷ four n
call_items (set_to counter i n) = 88 ∷ i ∷ four n
call_items (set_increment i n) = 96 ∷ i ∷ four n
call_items (divide i n) = 104 ∷ i ∷ four n

-- calls, one after the other
unfoldable pub calls_items : List Call → List ℕ
calls_items [] = []
calls_items (c ∷ cs) = call_items c ++ calls_items cs

-- REPLACEMENT

-- an action: a literal byte, a tag or a call
unfoldable pub action_items : Action → List ℕ
action_items (text b) = 40 ∷ b ∷ []
action_items (tag n) = 41 ∷ n ∷ []
action_items (call c) = call_items c

-- a replacement
unfoldable pub replacement_items : List Action → List ℕ
replacement_items [] = []
replacement_items (a ∷ as₁) = action_items a ++ replacement_items as₁

-- A MACRO AND A TABLE

-- a symbol's code
unfoldable pub symbol_code : Symbol → ℕ
symbol_code less = 1
symbol_code equal = 2

-- a slot's first bytes: symbol, tags and the lengths of its four parts
unfoldable pub header : Macro → List ℕ
header m =
    symbol_code m.symbol ∷ tags m.pattern
    ∷ (two (length (calls_items m.before))
    ++ (two (length (pattern_items m.pattern))
    ++ (two (length (replacement_items m.replacement)) ++ two (length (calls_items m.commands)))))

-- the four parts
unfoldable pub body : Macro → List ℕ
body m = calls_items m.before ++ (pattern_items m.pattern ++ (replacement_items m.replacement ++ calls_items m.commands))

-- a macro in its slot
unfoldable pub slot : Macro → List ℕ
slot m = header m ++ (body m ++ replicate (body_bytes - length (body m)) 0)

-- the macros of a table, oldest first
unfoldable pub slots : Table → List ℕ
slots [] = []
slots (m ∷ ms) = slot m ++ slots ms

-- a table, with zeros for its unused slots
unfoldable pub form : Table → List ℕ
form ms = slots ms ++ replicate (slot_bytes * (most_macros - length ms)) 0

-- 01, part 7: writing out.
use Rattle.std.specs.Prelude.{ℕ, zero, suc, ◌+◌, ◌/◌, ◌%◌, Bool, true, false, ◌&&◌, List, [], ◌∷◌, ◌++◌, leb, ltb, eqb, length}
use Prim.Native.Char.{code}
use Rattle.macros.specs.Quoted.{bytes, ◌is◌}
use Rattle.macros.specs.Bounds.{most_file_bytes, most_macro_bytes}
use Rattle.macros.specs.Refusals.{FileRefusal}
use Rattle.macros.specs.Refusals.FileRefusal.{file_too_long, macro_too_long}
use Rattle.macros.specs.Macro.{Closure, Member, Mark, PatternUnit, Piece, Sign, Move, Call, Action, Symbol, Macro, Table}
use Rattle.macros.specs.Macro.{pick, among, mark_byte}
use Rattle.macros.specs.Macro.Closure.{once, one_or_more, zero_or_more}
use Rattle.macros.specs.Macro.Member.{single, range}
use Rattle.macros.specs.Macro.Mark.{stack, counter}
use Rattle.macros.specs.Macro.PatternUnit.{literal, kind, class, call_of}
use Rattle.macros.specs.Macro.Piece.{element, start, end, left, right}
use Rattle.macros.specs.Macro.Sign.{plus, minus}
use Rattle.macros.specs.Macro.Move.{still, before, after}
use Rattle.macros.specs.Macro.Call.{insert, store_tag, set_to, store_text, set_increment, divide}
use Rattle.macros.specs.Macro.Action.{text, tag, call}
use Rattle.macros.specs.Macro.Symbol.{equal, less}

-- "In a pattern `\` stands before literal `$ ^ * [ ? & # { } / \ ' ; -`", and line feed and tab are `\n`, `\t`
unfoldable pub pattern_marks : List ℕ
pattern_marks = bytes "$^*[?&#{}/\\';-\n\t"

-- "in a class before `] - ~ \ ' ;`"
unfoldable pub class_marks : List ℕ
class_marks = bytes "]-~\\';\n\t"

-- "in replacements and call texts before `{ & # / \ ' ; :`"
unfoldable pub text_marks : List ℕ
text_marks = bytes "{&#/\\';:\n\t"

-- "line feed and tab are `\n`, `\t`": the byte behind a `\`
unfoldable pub escape_byte : ℕ → ℕ
escape_byte b = pick (b is "\n") (code "n") (pick (b is "\t") (code "t") b)

-- a byte, with a `\` if so said
unfoldable pub byte : Bool → ℕ → List ℕ
byte true b = code "\\" ∷ escape_byte b ∷ []
byte false b = b ∷ []

-- "Numbers have no leading zeros."; k is at least the number of n's digits less one
unfoldable pub digits_by : ℕ → ℕ → List ℕ
digits_by zero n = (code "0" + n) ∷ []
digits_by (suc k) n =
    let longer : List ℕ = digits_by k (n / 10) ++ ((code "0" + n % 10) ∷ []) in
    pick (ltb n 10) ((code "0" + n) ∷ []) longer

-- the digits of a number
unfoldable pub digits : ℕ → List ℕ
digits n = digits_by n n

-- PATTERN

-- a range's ends are letters or digits, which need no `\`
unfoldable pub write_member : Member → List ℕ
write_member (single c) = byte (among class_marks c) c
write_member (range a z) = a ∷ code "-" ∷ z ∷ []

-- the members and the `]`
unfoldable pub write_members : List Member → List ℕ
write_members [] = code "]" ∷ []
write_members (m ∷ ms) = write_member m ++ write_members ms

-- a unit of a pattern
unfoldable pub write_unit : PatternUnit → List ℕ
write_unit (literal b) = byte (among pattern_marks b) b
write_unit (kind n) = code "?" ∷ (code "0" + n) ∷ []
write_unit (class true ms) = code "[" ∷ code "~" ∷ write_members ms
write_unit (class false ms) = code "[" ∷ write_members ms
write_unit (call_of m i) = mark_byte m ∷ code "(" ∷ i ∷ code ")" ∷ []

-- `*` or `*-`
unfoldable pub closure_bytes : Closure → List ℕ
closure_bytes once = []
closure_bytes one_or_more = code "*" ∷ []
closure_bytes zero_or_more = code "*" ∷ code "-" ∷ []

-- an element or a brace
unfoldable pub write_piece : Piece → List ℕ
write_piece (element u c) = write_unit u ++ closure_bytes c
write_piece start = code "^" ∷ []
write_piece end = code "$" ∷ []
write_piece left = code "{" ∷ []
write_piece right = code "}" ∷ []

-- the pieces of a pattern
unfoldable pub write_pattern : List Piece → List ℕ
write_pattern [] = []
write_pattern (p ∷ ps) = write_piece p ++ write_pattern ps

-- CALLS

-- `+` or `-`
unfoldable pub sign_byte : Sign → ℕ
sign_byte plus = code "+"
sign_byte minus = code "-"

-- a letter with its sign
unfoldable pub name_bytes : ℕ → Move → List ℕ
name_bytes i still = i ∷ []
name_bytes i (before s) = sign_byte s ∷ i ∷ []
name_bytes i (after s) = i ∷ sign_byte s ∷ []

-- a call's text
unfoldable pub write_text : List ℕ → List ℕ
write_text [] = []
write_text (b ∷ t) = byte (among text_marks b) b ++ write_text t

-- what a call is of
unfoldable pub mark_of : Call → Mark
mark_of (insert m i v) = m
mark_of (store_tag n i v) = stack
mark_of (set_to m i n) = m
mark_of (store_text i v t) = stack
mark_of (set_increment i n) = counter
mark_of (divide i n) = counter

-- what stands behind `&(` or `#(`, a text written by w
unfoldable pub inner_bytes : (List ℕ → List ℕ) → Call → List ℕ
inner_bytes w (insert m i v) = name_bytes i v ++ (code ")" ∷ [])
inner_bytes w (store_tag n i v) = digits n ++ (code "," ∷ (name_bytes i v ++ (code ")" ∷ [])))
inner_bytes w (set_to m i n) = i ∷ code "=" ∷ (digits n ++ (code ")" ∷ []))
inner_bytes w (store_text i v t) = name_bytes i v ++ (code ":" ∷ (w t ++ (code ":" ∷ code ")" ∷ [])))
inner_bytes w (set_increment i n) = i ∷ code "," ∷ (digits n ++ (code ")" ∷ []))
inner_bytes w (divide i n) = i ∷ code ":" ∷ (digits n ++ (code ")" ∷ []))

-- a call, a text written by w
unfoldable pub call_bytes : (List ℕ → List ℕ) → Call → List ℕ
call_bytes w c = mark_byte (mark_of c) ∷ code "(" ∷ inner_bytes w c

-- REPLACEMENT AND COMMANDS

-- a part of a replacement
unfoldable pub write_action : Action → List ℕ
write_action (text b) = byte (among text_marks b) b
write_action (tag n) = code "{" ∷ (digits n ++ (code "}" ∷ []))
write_action (call c) = call_bytes write_text c

-- a replacement
unfoldable pub write_replacement : List Action → List ℕ
write_replacement [] = []
write_replacement (a ∷ as₁) = write_action a ++ write_replacement as₁

-- the commands, or the calls before a pattern, a text written by w
unfoldable pub commands_bytes : (List ℕ → List ℕ) → List Call → List ℕ
commands_bytes w [] = []
commands_bytes w (c ∷ cs) = call_bytes w c ++ commands_bytes w cs

-- `=` or `<`
unfoldable pub symbol_sign : Symbol → ℕ
symbol_sign equal = code "="
symbol_sign less = code "<"

-- a macro from its first byte to its `;`, "without comments or needless spaces"; 02, N2: "the written file has the calls there"
unfoldable pub written : Macro → List ℕ
written m =
    commands_bytes write_text m.before
    ++ (code "'" ∷ (write_pattern m.pattern
    ++ (code "'" ∷ symbol_sign m.symbol ∷ code "'" ∷ (write_replacement m.replacement
    ++ (code "'" ∷ (commands_bytes write_text m.commands ++ (code ";" ∷ [])))))))

-- the file, or a refusal with its place
pub data Written : Type 0 where
  refused : FileRefusal → ℕ → Written
  file : List ℕ → Written

-- "Each macro on a line ended by line feed, oldest first", behind the bytes s:
-- "The first byte that makes a macro longer than 512 gives 18, the 32,769th of the file 10, whichever comes first (18 if the same)";
-- their places are length s + 512 and 32,768
unfoldable pub write_from : List ℕ → Table → Written
write_from s [] = file s
write_from s (m ∷ ms) =
    pick (ltb most_macro_bytes (length (written m)) && leb (length s + most_macro_bytes) most_file_bytes)
    (refused macro_too_long (length s + most_macro_bytes))
    (pick (ltb most_file_bytes (length s + suc (length (written m)))) (refused file_too_long most_file_bytes)
    (write_from (s ++ (written m ++ (code "\n" ∷ []))) ms))

-- a table, written out
unfoldable pub write_out : Table → Written
write_out ms = write_from [] ms

-- The shortest spelling of a macro: a `\` only where the byte would be read otherwise without it.
-- Of `?` and a digit, or `&` or `#` and `(`, either may have the `\`; here the second has it.
use Rattle.std.specs.Prelude.{ℕ, ◌+◌, Bool, true, false, not, ◌&&◌, ◌||◌, List, [], ◌∷◌, ◌++◌}
use Rattle.std.proofs.Math.Option.{Option, none, some}
use Prim.Native.Char.{code}
use Rattle.macros.specs.Quoted.{bytes, ◌is◌}
use Rattle.macros.specs.Macro.{Member, Mark, PatternUnit, Piece, Action, Macro, pick, among, mark_byte}
use Rattle.macros.specs.Macro.Closure.{once, one_or_more, zero_or_more}
use Rattle.macros.specs.Macro.Member.{single, range}
use Rattle.macros.specs.Macro.Mark.{stack, counter}
use Rattle.macros.specs.Macro.PatternUnit.{literal, kind, class, call_of}
use Rattle.macros.specs.Macro.Piece.{element, start, end, left, right}
use Rattle.macros.specs.Macro.Action.{text, tag, call}
use Rattle.macros.specs.Read.{Joinable, signs, kind_digit, hold}
use Rattle.macros.specs.ReadSoFar.Joinable.{nothing, unit, starred, query, marked}
use Rattle.macros.specs.Write.{byte, digits, closure_bytes, call_bytes, commands_bytes, symbol_sign}

-- PATTERN

-- the byte would join what stands before it: `-` a `*`; 1 to 6 a `?`; `(` a `&` or `#`
unfoldable pub joins : Joinable → ℕ → Bool
joins nothing b = false
joins (unit u) b = false
joins (starred u) b = b is "-"
joins query b = kind_digit b
joins (marked m) b = b is "("

-- a literal needs its `\`: always `$ ^ * [ { } / \ ' ;` and line feed
unfoldable pub needs : Joinable → ℕ → Bool
needs h b = among (code "/" ∷ signs) b || joins h b

-- what a unit without a closure leaves for the next byte to join
unfoldable pub leaves_unit : PatternUnit → Joinable
leaves_unit (literal b) = hold b
leaves_unit (kind n) = unit (kind n)
leaves_unit (class neg ms) = unit (class neg ms)
leaves_unit (call_of m i) = unit (call_of m i)

-- what a piece leaves for the next byte to join
unfoldable pub leaves : Piece → Joinable
leaves (element u once) = leaves_unit u
leaves (element u one_or_more) = starred u
leaves (element u zero_or_more) = nothing
leaves start = nothing
leaves end = nothing
leaves left = nothing
leaves right = nothing

-- in a class, what stands before a member
pub data Before : Type 0 where
  bracket tilde a_single a_range : Before

-- the byte would not be a member: a leading `~`, or, behind a single member, a `-` that is not the last member
unfoldable pub joins_class : Before → Bool → ℕ → Bool
joins_class bracket is_last b = b is "~"
joins_class tilde is_last b = false
joins_class a_single is_last b = b is "-" && not is_last
joins_class a_range is_last b = false

-- the bytes that need their `\` anywhere in a class: `] ' ; LF \`
abbrev pub class_signs : List ℕ
class_signs = bytes "]';\n\\"

-- a member needs its `\`
unfoldable pub needs_class : Before → Bool → ℕ → Bool
needs_class f is_last b = among class_signs b || joins_class f is_last b

-- no member follows
unfoldable pub none? : List Member → Bool
none? [] = true
none? (m ∷ ms) = false

-- what stands before the next member
unfoldable pub behind : Member → Before
behind (single a) = a_single
behind (range a z) = a_range

-- a member, behind what stands before it
unfoldable pub spell_member : Before → Bool → Member → List ℕ
spell_member f is_last (single a) = byte (needs_class f is_last a) a
spell_member f is_last (range a z) = a ∷ code "-" ∷ z ∷ []

-- the members and the `]`
unfoldable pub spell_members : Before → List Member → List ℕ
spell_members f [] = code "]" ∷ []
spell_members f (m ∷ ms) = spell_member f (none? ms) m ++ spell_members (behind m) ms

-- a unit, behind what may still be joined
unfoldable pub spell_unit : Joinable → PatternUnit → List ℕ
spell_unit h (literal b) = byte (needs h b) b
spell_unit h (kind n) = code "?" ∷ (code "0" + n) ∷ []
spell_unit h (class true ms) = code "[" ∷ code "~" ∷ spell_members tilde ms
spell_unit h (class false ms) = code "[" ∷ spell_members bracket ms
spell_unit h (call_of m i) = mark_byte m ∷ code "(" ∷ i ∷ code ")" ∷ []

-- an element or a brace, behind what may still be joined
unfoldable pub spell_piece : Joinable → Piece → List ℕ
spell_piece h (element u c) = spell_unit h u ++ closure_bytes c
spell_piece h start = code "^" ∷ []
spell_piece h end = code "$" ∷ []
spell_piece h left = code "{" ∷ []
spell_piece h right = code "}" ∷ []

-- the pieces, behind what may still be joined
unfoldable pub spell_pattern : Joinable → List Piece → List ℕ
spell_pattern h [] = []
spell_pattern h (p ∷ ps) = spell_piece h p ++ spell_pattern (leaves p) ps

-- REPLACEMENT AND COMMANDS

-- the bytes that need their `\` in a call's text: `/ : ' ; LF \`
abbrev pub call_text_signs : List ℕ
call_text_signs = bytes "/:';\n\\"

-- a call's text
unfoldable pub spell_text : List ℕ → List ℕ
spell_text [] = []
spell_text (b ∷ t) = byte (among call_text_signs b) b ++ spell_text t

-- whether a bare `&` or `#` stands before
unfoldable pub is_mark : Option Mark → Bool
is_mark none = false
is_mark (some m) = true

-- the bytes that need their `\` anywhere in a replacement: `/ ' ; LF \ {`
abbrev pub text_signs : List ℕ
text_signs = bytes "/';\n\\{"

-- a literal of a replacement needs its `\`; so does `(` behind `&` or `#`
unfoldable pub needs_text : Option Mark → ℕ → Bool
needs_text a b = among text_signs b || b is "(" && is_mark a

-- the `&` or `#` that a byte is
unfoldable pub mark_in : ℕ → Option Mark
mark_in b = pick (b is "&") (some stack) (pick (b is "#") (some counter) none)

-- the bare `&` or `#` that an action leaves
unfoldable pub leaves_mark : Action → Option Mark
leaves_mark (text b) = mark_in b
leaves_mark (tag n) = none
leaves_mark (call c) = none

-- a part of a replacement, behind a bare `&` or `#` or not
unfoldable pub spell_action : Option Mark → Action → List ℕ
spell_action a (text b) = byte (needs_text a b) b
spell_action a (tag n) = code "{" ∷ (digits n ++ (code "}" ∷ []))
spell_action a (call c) = call_bytes spell_text c

-- a replacement, behind a bare `&` or `#` or not
unfoldable pub spell_replacement : Option Mark → List Action → List ℕ
spell_replacement a [] = []
spell_replacement a (x ∷ xs) = spell_action a x ++ spell_replacement (leaves_mark x) xs

-- the shortest spelling, from the first byte of the calls before its pattern (02, N2), or else from its quote, to the `;`
unfoldable pub shortest : Macro → List ℕ
shortest m =
    commands_bytes spell_text m.before
    ++ (code "'" ∷ (spell_pattern nothing m.pattern
    ++ (code "'" ∷ symbol_sign m.symbol ∷ code "'" ∷ (spell_replacement none m.replacement
    ++ (code "'" ∷ (commands_bytes spell_text m.commands ++ (code ";" ∷ [])))))))

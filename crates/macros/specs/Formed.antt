-- 01, part 2: when a macro is well formed.
use Rattle.std.specs.Prelude.{ℕ, ◌≤◌, ◌<◌, ◌≡◌, Bool, true, List, [], ◌∷◌, reverse, length}
use Rattle.macros.specs.Bounds.{most_tags, most_entries, most_entry_bytes, most_counter}
use Rattle.macros.specs.Macro.{Member, Mark, PatternUnit, Piece, Call, Action, Macro, within, is_range, tags, elements, depth}
use Rattle.macros.specs.Macro.Member.{single, range}
use Rattle.macros.specs.Macro.Mark.{stack, counter}
use Rattle.macros.specs.Macro.PatternUnit.{literal, kind, class, call_of}
use Rattle.macros.specs.Macro.Piece.{element, start, end, left, right}
use Rattle.macros.specs.Macro.Call.{insert, store_tag, set_to, store_text, set_increment, divide}
use Rattle.macros.specs.Macro.Action.{text, tag, call}

-- n is one of a to z
abbrev pub Between : ℕ → ℕ → ℕ → Type 0
Between a z n = (a ≤ n) × (n ≤ z)

-- a byte other than 0
abbrev pub Byte : ℕ → Type 0
Byte b = Between 1 255 b

-- bytes, none of them 0
abbrev pub Bytes : List ℕ → Type 0
Bytes [] = Unit {0}
Bytes (b ∷ s) = Byte b × Bytes s

-- any bytes, 0 among them
abbrev pub Octets : List ℕ → Type 0
Octets [] = Unit {0}
Octets (b ∷ s) = (b ≤ 255) × Octets s

-- "i a lower case letter"
abbrev pub Letter : ℕ → Type 0
Letter i = Between 97 122 i

-- a member is a byte other than 0, or a range's ends are in order
abbrev pub FormedMember : Member → Type 0
FormedMember (single c) = Byte c
FormedMember (range a z) = (is_range a z ≡ true)

-- each member is well formed
abbrev pub FormedMembers : List Member → Type 0
FormedMembers [] = Unit {0}
FormedMembers (m ∷ ms) = FormedMember m × FormedMembers ms

-- a class is not empty
abbrev pub FormedUnit : PatternUnit → Type 0
FormedUnit (literal b) = Byte b
FormedUnit (kind n) = Between 1 6 n
FormedUnit (class neg ms) = (0 < length ms) × FormedMembers ms
FormedUnit (call_of m i) = Letter i

-- the pieces, newest first: at most 99 tags, and no right brace without its left
abbrev pub FormedPieces : List Piece → Type 0
FormedPieces [] = Unit {0}
FormedPieces (element u c ∷ ps) = FormedUnit u × FormedPieces ps
FormedPieces (start ∷ ps) = FormedPieces ps
FormedPieces (end ∷ ps) = FormedPieces ps
FormedPieces (left ∷ ps) = (tags ps < most_tags) × FormedPieces ps
FormedPieces (right ∷ ps) = (0 < depth ps) × FormedPieces ps

-- the pieces, newest first: no brace is open at the end, and there is an element
pub record FormedPattern (ps : List Piece) : Type 0 where
  pub pieces : FormedPieces ps
  pub shut : depth ps ≡ 0
  pub some_element : 0 < elements ps

-- the largest number that a pointer, or a counter or its increment, is set to, or a counter is divided by
unfoldable pub limit : Mark → ℕ
limit stack = most_entries
limit counter = most_counter

-- a call's number is in range; a tag is one of the pattern's k
unfoldable pub number_fits : ℕ → Call → Bool
number_fits k (insert m i v) = true
number_fits k (store_tag n i v) = within 1 k n
number_fits k (set_to m i n) = within 1 (limit m) n
number_fits k (store_text i v t) = true
number_fits k (set_increment i n) = within 1 (limit counter) n
number_fits k (divide i n) = within 1 (limit counter) n

-- a call's letter and text
abbrev pub Named : Call → Type 0
Named (insert m i v) = Letter i
Named (store_tag n i v) = Letter i
Named (set_to m i n) = Letter i
Named (store_text i v t) = Letter i × Bytes t × (length t ≤ most_entry_bytes)
Named (set_increment i n) = Letter i
Named (divide i n) = Letter i

-- a call is well formed where k tags may be named
pub record FormedCall (k : ℕ) (c : Call) : Type 0 where
  pub names : Named c
  pub numbers : number_fits k c ≡ true

-- a part of a replacement, behind a pattern of k tags
abbrev pub FormedAction : ℕ → Action → Type 0
FormedAction k (text b) = Byte b
FormedAction k (tag n) = Between 1 k n
FormedAction k (call c) = FormedCall k c

-- each part of a replacement is well formed
abbrev pub FormedReplacement : ℕ → List Action → Type 0
FormedReplacement k [] = Unit {0}
FormedReplacement k (a ∷ as₁) = FormedAction k a × FormedReplacement k as₁

-- "As commands, all but `&(i)` and `#(i)` forms."; 02, N7, of `#(i:n)`: "It may stand in a replacement only"
abbrev pub Commands : Call → Type 0
Commands (insert m i v) = ⊥
Commands (store_tag n i v) = Unit {0}
Commands (set_to m i n) = Unit {0}
Commands (store_text i v t) = Unit {0}
Commands (set_increment i n) = Unit {0}
Commands (divide i n) = ⊥

-- each command is one, and well formed
abbrev pub FormedCommands : ℕ → List Call → Type 0
FormedCommands k [] = Unit {0}
FormedCommands k (c ∷ cs) = (Commands c × FormedCall k c) × FormedCommands k cs

-- a macro is well formed; 02, N2: the calls before its pattern are commands, and there is no tag that they could store
pub record Formed (m : Macro) : Type 0 where
  pub before : FormedCommands 0 m.before
  pub pattern : FormedPattern (reverse m.pattern)
  pub replacement : FormedReplacement (tags (reverse m.pattern)) m.replacement
  pub commands : FormedCommands (tags (reverse m.pattern)) m.commands

-- 01, part 2: reading a class.
use Rattle.std.specs.Prelude.{ℕ, Bool, true, false, ◌&&◌, List, [], ◌∷◌, reverse}
use Prim.Native.Char.{code}
use Rattle.macros.specs.Quoted.{◌is◌}
use Rattle.macros.specs.Refusals.FileRefusal.{incomplete, bad_class}
use Rattle.macros.specs.Macro.{Member, Piece, pick, is_range}
use Rattle.macros.specs.Macro.Member.{single, range}
use Rattle.macros.specs.Macro.PatternUnit.{class}
use Rattle.macros.specs.ReadSoFar.{Last, Step, breaks}
use Rattle.macros.specs.ReadSoFar.Joinable.{unit}
use Rattle.macros.specs.ReadSoFar.Last.{free, member, dash}
use Rattle.macros.specs.ReadSoFar.Part.{pattern, members, members_escape}
use Rattle.macros.specs.ReadSoFar.Step.{on, stop}

-- "a member c followed by `-` and something other than `]` is a range; otherwise c alone"; 13 at a bad range's second end
unfoldable pub new_member : List Piece → Bool → Last → List Member → ℕ → Step
new_member ps neg free ms c = on (members ps neg (member c) ms)
new_member ps neg (member a) ms c = on (members ps neg (member c) (single a ∷ ms))
new_member ps neg (dash a) ms c = pick (is_range a c) (on (members ps neg free (range a c ∷ ms))) (stop bad_class)

-- the members at the `]`: a dash before it is a member
unfoldable pub members_at_end : Last → List Member → List Member
members_at_end free ms = ms
members_at_end (member a) ms = single a ∷ ms
members_at_end (dash a) ms = single (code "-") ∷ single a ∷ ms

-- the `]`: 13 if the class is empty
unfoldable pub class_end : List Piece → Bool → List Member → Step
class_end ps neg [] = stop bad_class
class_end ps neg (m ∷ ms) = on (pattern (unit (class neg (reverse (m ∷ ms)))) ps)

-- whether a `-` may make a range here
unfoldable pub dashes : Last → Bool
dashes free = false
dashes (member a) = true
dashes (dash a) = false

-- behind a `-` that may make a range
unfoldable pub dashed : Last → Last
dashed free = free
dashed (member a) = dash a
dashed (dash a) = dash a

-- "members until `]`"; "`'`, `;` and line feed need `\` there too"
unfoldable pub members_byte : List Piece → Bool → Last → List Member → ℕ → Step
members_byte ps neg l ms b =
    pick (b is "]") (class_end ps neg (members_at_end l ms))
    (pick (breaks b) (stop incomplete)
    (pick (b is "\\") (on (members_escape ps neg l ms))
    (pick (b is "-" && dashes l) (on (members ps neg (dashed l) ms))
    (new_member ps neg l ms b))))

-- "a leading `~` means the complement"
unfoldable pub opened_byte : List Piece → ℕ → Step
opened_byte ps b = pick (b is "~") (on (members ps true free [])) (members_byte ps false free [] b)

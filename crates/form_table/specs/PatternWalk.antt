-- The walk over a pattern's items: what no form has is refused, and the shortest spelling's bytes are counted.
use Rattle.std.specs.Prelude.{ℕ, suc, ◌+◌, ◌-◌, ◌/◌, ◌%◌, Bool, true, false, ◌&&◌, ◌||◌, [], ◌∷◌, eqb, ltb}
use Rattle.std.proofs.Math.Option.{Option, none, some}
use Rattle.macros.specs.Bounds.{most_tags}
use Rattle.macros.specs.Macro.{Closure, PatternUnit, pick, among, within, ascii_lower, is_range}
use Rattle.macros.specs.Macro.Closure.{once, one_or_more, zero_or_more}
use Rattle.macros.specs.Macro.Mark.{stack, counter}
use Rattle.macros.specs.Macro.PatternUnit.{literal, kind, class, call_of}
use Rattle.macros.specs.Spell.{class_signs}
use Rattle.macros.specs.Read.{signs, kind_digit}
use Rattle.form_table.specs.Walk.{given, bit}

-- WHERE THE WALK STANDS

-- what the next byte may join: nothing; a `*`, by `-`; a `?`, by 1 to 6; a `&` or `#`, by `(`
pub data Joint : Type 0 where
  loose after_star after_query after_mark : Joint

-- in a class: behind `[`, `[~`, a single member, a `-` that is a single member behind a single member, or a range
pub data Inside : Type 0 where
  at_bracket at_tilde at_single at_dash at_range : Inside

-- behind a piece; in a class; in a range, behind its first end. A class keeps what it leaves to join.
pub data PatternSpot : Type 0 where
  behind_piece : Joint → PatternSpot
  in_class : Joint → Inside → PatternSpot
  in_range : Joint → ℕ → PatternSpot

-- the bytes spelled, the tags, the open braces and the elements so far
pub data PatternState : Type 0 where
  pattern_at : (spelled tags braces elements : ℕ) → PatternSpot → PatternState

-- ELEMENTS

-- the closure of a code
unfoldable pub closure_of : ℕ → Option Closure
closure_of k = pick (eqb k 0) (some once) (pick (eqb k 1) (some one_or_more) (pick (eqb k 2) (some zero_or_more) none))

-- the bytes of `*` and `*-`
unfoldable pub closure_length : Closure → ℕ
closure_length once = 0
closure_length one_or_more = 1
closure_length zero_or_more = 2

-- what an element leaves to join whose unit leaves j
unfoldable pub closure_joint : Joint → Closure → Joint
closure_joint j once = j
closure_joint j one_or_more = after_star
closure_joint j zero_or_more = loose

-- the unit of a code and an operand; a class, its members still to come
unfoldable pub unit_of : ℕ → ℕ → Option PatternUnit
unit_of c o =
    pick (eqb c 2) (given (within 1 255 o) (literal o))
    (pick (eqb c 3) (given (within 1 6 o) (kind o))
    (pick (eqb c 4) (given (ascii_lower o) (call_of stack o))
    (pick (eqb c 5) (given (ascii_lower o) (call_of counter o))
    (pick (eqb c 6) (given (eqb o 0) (class false []))
    (pick (eqb c 7) (given (eqb o 0) (class true [])) none)))))

-- the byte would join what stands before it
unfoldable pub joins_at : Joint → ℕ → Bool
joins_at loose b = false
joins_at after_star b = eqb b 45
joins_at after_query b = kind_digit b
joins_at after_mark b = eqb b 40

-- a literal with the `\` that it needs
unfoldable pub literal_length : Joint → ℕ → ℕ
literal_length j b = 1 + bit (among (47 ∷ signs) b || joins_at j b)

-- `?`, `&` and `#` may be joined
unfoldable pub literal_joint : ℕ → Joint
literal_joint b = pick (eqb b 63) after_query (pick (eqb b 38) after_mark (pick (eqb b 35) after_mark loose))

-- a class begins with `[~` if it is a complement, else with `[`
unfoldable pub opening : Bool → Inside
opening true = at_tilde
opening false = at_bracket

-- behind the first item of an element
unfoldable pub element_at : (n t d e : ℕ) → Joint → PatternUnit → Closure → PatternState
element_at n t d e j (literal b) k =
    pattern_at (n + literal_length j b + closure_length k) t d (suc e) (behind_piece (closure_joint (literal_joint b) k))
element_at n t d e j (kind m) k = pattern_at (n + 2 + closure_length k) t d (suc e) (behind_piece (closure_joint loose k))
element_at n t d e j (call_of m i) k = pattern_at (n + 4 + closure_length k) t d (suc e) (behind_piece (closure_joint loose k))
element_at n t d e j (class neg ms) k =
    pattern_at (n + 2 + bit neg + closure_length k) t d (suc e) (in_class (closure_joint loose k) (opening neg))

-- an element, if its code and its operand are some
unfoldable pub element_step : (n t d e : ℕ) → Joint → Option PatternUnit → Option Closure → Option PatternState
element_step n t d e j none k = none
element_step n t d e j (some u) none = none
element_step n t d e j (some u) (some k) = some (element_at n t d e j u k)

-- PIECES

-- a brace, `^` or `$`
unfoldable pub sign_step : (n t d e c : ℕ) → Option PatternState
sign_step n t d e c =
    pick (eqb c 1) (given (ltb t most_tags) (pattern_at (suc n) (suc t) (suc d) e (behind_piece loose)))
    (pick (eqb c 2) (given (ltb 0 d) (pattern_at (suc n) t (d - 1) e (behind_piece loose)))
    (pick (eqb c 3) (some (pattern_at (suc n) t d (suc e) (behind_piece loose)))
    (pick (eqb c 4) (some (pattern_at (suc n) t d (suc e) (behind_piece loose))) none)))

-- the first item of a piece: a code below 8 has the operand 0
unfoldable pub piece_step : (n t d e : ℕ) → Joint → (c o : ℕ) → Option PatternState
piece_step n t d e j c o =
    pick (ltb c 8) (pick (eqb o 0) (sign_step n t d e c) none) (element_step n t d e j (unit_of (c / 4) o) (closure_of (c % 4)))

-- CLASSES

-- a `-` behind a single member needs its `\` as soon as a member follows
unfoldable pub owed : Inside → ℕ
owed at_bracket = 0
owed at_tilde = 0
owed at_single = 0
owed at_dash = 1
owed at_range = 0

-- a `~` here would make the class a complement
unfoldable pub at_start : Inside → Bool
at_start at_bracket = true
at_start at_tilde = false
at_start at_single = false
at_start at_dash = false
at_start at_range = false

-- a `-` here would make a range
unfoldable pub behind_single : Inside → Bool
behind_single at_bracket = false
behind_single at_tilde = false
behind_single at_single = true
behind_single at_dash = true
behind_single at_range = false

-- a class is not empty
unfoldable pub some_member : Inside → Bool
some_member at_bracket = false
some_member at_tilde = false
some_member at_single = true
some_member at_dash = true
some_member at_range = true

-- a single member with the `\` that it needs, whatever follows
unfoldable pub member_length : Inside → ℕ → ℕ
member_length w b = 1 + bit (among class_signs b || eqb b 126 && at_start w)

-- behind the single member b
unfoldable pub member_spot : Inside → ℕ → Inside
member_spot w b = pick (eqb b 45 && behind_single w) at_dash at_single

-- a single member, a range's first end, or the `]`
unfoldable pub member_step : (n t d e : ℕ) → Joint → Inside → (c o : ℕ) → Option PatternState
member_step n t d e j w c o =
    pick (eqb c 32) (given (within 1 255 o) (pattern_at (n + owed w + member_length w o) t d e (in_class j (member_spot w o))))
    (pick (eqb c 33) (some (pattern_at (n + owed w + 3) t d e (in_range j o)))
    (pick (eqb c 35) (given (eqb o 0 && some_member w) (pattern_at n t d e (behind_piece j))) none))

-- a range's second end
unfoldable pub range_step : (n t d e : ℕ) → Joint → (a c o : ℕ) → Option PatternState
range_step n t d e j a c o = given (eqb c 34 && is_range a o) (pattern_at n t d e (in_class j at_range))

-- THE WALK

-- one item, by where the walk stands
unfoldable pub pattern_step : PatternState → ℕ → ℕ → Option PatternState
pattern_step (pattern_at n t d e (behind_piece j)) c o = piece_step n t d e j c o
pattern_step (pattern_at n t d e (in_class j w)) c o = member_step n t d e j w c o
pattern_step (pattern_at n t d e (in_range j a)) c o = range_step n t d e j a c o

-- counted from the first are the four quotes, the symbol and the `;`
unfoldable pub pattern_start : PatternState
pattern_start = pattern_at 6 0 0 0 (behind_piece loose)

-- at the end no brace is open, there is an element, and the tags are k
unfoldable pub pattern_ends : ℕ → PatternState → Bool
pattern_ends k (pattern_at n t d e (behind_piece j)) = eqb t k && (eqb d 0 && ltb 0 e)
pattern_ends k (pattern_at n t d e (in_class j w)) = false
pattern_ends k (pattern_at n t d e (in_range j a)) = false

-- the bytes spelled
unfoldable pub pattern_spelled : PatternState → ℕ
pattern_spelled (pattern_at n t d e at) = n

-- Spelling in any style that puts a `\` at least where one is needed; the style that adds none gives the shortest spelling.
use mathlib.Core.Path.{refl, ◌≡◌}
use mathlib.Core.Bool.{Bool, false, true, ◌||◌}
use mathlib.Core.List.{◌++◌, List, [], ◌∷◌}
use mathlib.Core.Option.{Option, none}
use Prim.Native.Nat.{◌+◌, ℕ}
use Rattle.macros.specs.Macro.{Action, Call, Macro, Mark, Member, PatternUnit, Piece, among, mark_byte, pick}
use Rattle.macros.specs.Macro.Closure.{once, one_or_more, zero_or_more}
use Rattle.macros.specs.Macro.Member.{range, single}
use Rattle.macros.specs.Macro.PatternUnit.{call_of, class, kind, literal}
use Rattle.macros.specs.Macro.Piece.{element, end, left, right, start}
use Rattle.macros.specs.Macro.Call.{divide, insert, set_increment, set_to, store_tag, store_text}
use Rattle.macros.specs.Macro.Action.{call, tag, text}
use Rattle.macros.specs.Read.{Joinable, hold}
use Rattle.macros.specs.ReadSoFar.Joinable.{nothing, starred, unit}
use Rattle.macros.specs.Write.{byte, call_bytes, class_marks, closure_bytes, commands_bytes, digits, inner_bytes, pattern_marks, symbol_sign, text_marks}
use Rattle.macros.specs.Spell.{call_text_signs, Before, behind, leaves, leaves_mark, leaves_unit, mark_in, needs, needs_class, needs_text, none?, shortest, spell_action, spell_member, spell_members, spell_pattern, spell_piece, spell_replacement, spell_text, spell_unit}
use Rattle.macros.specs.Spell.Before.{bracket, tilde}

-- the bytes that get a `\` even where they need none
pub record Style : Type 0 where
  pub pattern_too : ℕ → Bool
  pub class_too : ℕ → Bool
  pub text_too : ℕ → Bool

-- PATTERN

unfoldable pub member_bytes : Style → Before → Bool → Member → List ℕ
member_bytes y f is_last (single a) = byte (y.class_too a || needs_class f is_last a) a
member_bytes y f is_last (range a z) = a ∷ 45 ∷ z ∷ []

unfoldable pub members_bytes : Style → Before → List Member → List ℕ
members_bytes y f [] = 93 ∷ []
members_bytes y f (m ∷ ms) = member_bytes y f (none? ms) m ++ members_bytes y (behind m) ms

unfoldable pub class_bytes : Style → Bool → List Member → List ℕ
class_bytes y true ms = 91 ∷ 126 ∷ members_bytes y tilde ms
class_bytes y false ms = 91 ∷ members_bytes y bracket ms

unfoldable pub unit_bytes : Style → Joinable → PatternUnit → List ℕ
unit_bytes y h (literal b) = byte (y.pattern_too b || needs h b) b
unit_bytes y h (kind n) = 63 ∷ (48 + n) ∷ []
unit_bytes y h (class neg ms) = class_bytes y neg ms
unit_bytes y h (call_of m i) = mark_byte m ∷ 40 ∷ i ∷ 41 ∷ []

unfoldable pub piece_bytes : Style → Joinable → Piece → List ℕ
piece_bytes y h (element u c) = unit_bytes y h u ++ closure_bytes c
piece_bytes y h start = 94 ∷ []
piece_bytes y h end = 36 ∷ []
piece_bytes y h left = 123 ∷ []
piece_bytes y h right = 125 ∷ []

-- what a piece leaves for the next byte to join
unfoldable pub unit_leaves : Style → PatternUnit → Joinable
unit_leaves y (literal b) = pick (y.pattern_too b) (unit (literal b)) (hold b)
unit_leaves y (kind n) = unit (kind n)
unit_leaves y (class neg ms) = unit (class neg ms)
unit_leaves y (call_of m i) = unit (call_of m i)

unfoldable pub piece_leaves : Style → Piece → Joinable
piece_leaves y (element u once) = unit_leaves y u
piece_leaves y (element u one_or_more) = starred u
piece_leaves y (element u zero_or_more) = nothing
piece_leaves y start = nothing
piece_leaves y end = nothing
piece_leaves y left = nothing
piece_leaves y right = nothing

unfoldable pub pattern_bytes : Style → Joinable → List Piece → List ℕ
pattern_bytes y h [] = []
pattern_bytes y h (p ∷ ps) = piece_bytes y h p ++ pattern_bytes y (piece_leaves y p) ps

-- REPLACEMENT AND COMMANDS

unfoldable pub text_bytes : Style → List ℕ → List ℕ
text_bytes y [] = []
text_bytes y (b ∷ t) = byte (y.text_too b || among call_text_signs b) b ++ text_bytes y t

unfoldable pub action_bytes : Style → Option Mark → Action → List ℕ
action_bytes y a (text b) = byte (y.text_too b || needs_text a b) b
action_bytes y a (tag n) = 123 ∷ (digits n ++ (125 ∷ []))
action_bytes y a (call c) = call_bytes (text_bytes y) c

-- what a `(` would join behind the action
unfoldable pub action_leaves : Style → Action → Option Mark
action_leaves y (text b) = pick (y.text_too b) none (mark_in b)
action_leaves y (tag n) = none
action_leaves y (call c) = none

unfoldable pub replacement_bytes : Style → Option Mark → List Action → List ℕ
replacement_bytes y a [] = []
replacement_bytes y a (x ∷ xs) = action_bytes y a x ++ replacement_bytes y (action_leaves y x) xs

-- a macro from its first quote, or the calls before it, to its `;`
unfoldable pub spelled : Style → Macro → List ℕ
spelled y m =
    commands_bytes (text_bytes y) m.before
    ++ (39 ∷ (pattern_bytes y nothing m.pattern
    ++ (39 ∷ symbol_sign m.symbol ∷ 39 ∷ (replacement_bytes y none m.replacement ++ (39 ∷ (commands_bytes (text_bytes y) m.commands ++ (59 ∷ [])))))))

-- as few as can be, and as many as writing out puts
unfoldable pub bare : Style
bare = record { pattern_too = λ b. false; class_too = λ b. false; text_too = λ b. false }

unfoldable pub full : Style
full = record { pattern_too = among pattern_marks; class_too = among class_marks; text_too = among text_marks }

-- `\n` and `\t` are no `n` and no `t`: no style may put a `\` before these
pub record Fair (y : Style) : Type 0 where
  pub pattern_n : y.pattern_too 110 ≡ false
  pub pattern_t : y.pattern_too 116 ≡ false
  pub class_n : y.class_too 110 ≡ false
  pub class_t : y.class_too 116 ≡ false
  pub text_n : y.text_too 110 ≡ false
  pub text_t : y.text_too 116 ≡ false

pub fair_full : Fair full
unfolding full among pattern_marks class_marks text_marks
fair_full = record { pattern_n = refl; pattern_t = refl; class_n = refl; class_t = refl; text_n = refl; text_t = refl }

pub fair_bare : Fair bare
unfolding bare
fair_bare = record { pattern_n = refl; pattern_t = refl; class_n = refl; class_t = refl; text_n = refl; text_t = refl }

-- THE SHORTEST SPELLING

members_bare : (f : Before) (ms : List Member) → spell_members f ms ≡ members_bytes bare f ms
unfolding spell_members spell_member members_bytes member_bytes bare
members_bare f [] = refl
members_bare f (single a ∷ ms) = rw (members_bare (behind (single a)) ms)
members_bare f (range a z ∷ ms) = rw (members_bare (behind (range a z)) ms)

unit_bare : (h : Joinable) (u : PatternUnit) → spell_unit h u ≡ unit_bytes bare h u
unfolding spell_unit unit_bytes class_bytes bare
unit_bare h (literal b) = refl
unit_bare h (kind n) = refl
unit_bare h (class true ms) = rw (members_bare tilde ms)
unit_bare h (class false ms) = rw (members_bare bracket ms)
unit_bare h (call_of m i) = refl

piece_bare : (h : Joinable) (p : Piece) → spell_piece h p ≡ piece_bytes bare h p
unfolding spell_piece piece_bytes
piece_bare h (element u c) = rw (unit_bare h u)
piece_bare h start = refl
piece_bare h end = refl
piece_bare h left = refl
piece_bare h right = refl

leaves_unit_bare : (u : PatternUnit) → leaves_unit u ≡ unit_leaves bare u
unfolding leaves_unit unit_leaves bare pick
leaves_unit_bare (literal b) = refl
leaves_unit_bare (kind n) = refl
leaves_unit_bare (class neg ms) = refl
leaves_unit_bare (call_of m i) = refl

leaves_bare : (p : Piece) → leaves p ≡ piece_leaves bare p
unfolding leaves piece_leaves
leaves_bare (element u once) = leaves_unit_bare u
leaves_bare (element u one_or_more) = refl
leaves_bare (element u zero_or_more) = refl
leaves_bare start = refl
leaves_bare end = refl
leaves_bare left = refl
leaves_bare right = refl

pattern_bare : (h : Joinable) (ps : List Piece) → spell_pattern h ps ≡ pattern_bytes bare h ps
unfolding spell_pattern pattern_bytes
pattern_bare h [] = refl
pattern_bare h (p ∷ ps) = rw (piece_bare h p, leaves_bare p, pattern_bare (piece_leaves bare p) ps)

text_bare : (t : List ℕ) → spell_text t ≡ text_bytes bare t
unfolding spell_text text_bytes bare
text_bare [] = refl
text_bare (b ∷ t) = rw (text_bare t)

call_bare : (c : Call) → call_bytes spell_text c ≡ call_bytes (text_bytes bare) c
unfolding call_bytes inner_bytes
call_bare (insert m i v) = refl
call_bare (store_tag n i v) = refl
call_bare (set_to m i n) = refl
call_bare (store_text i v t) = rw (text_bare t)
call_bare (set_increment i n) = refl
call_bare (divide i n) = refl

action_bare : (a : Option Mark) (x : Action) → spell_action a x ≡ action_bytes bare a x
unfolding spell_action action_bytes bare
action_bare a (text b) = refl
action_bare a (tag n) = refl
action_bare a (call c) = call_bare c

leaves_mark_bare : (x : Action) → leaves_mark x ≡ action_leaves bare x
unfolding leaves_mark action_leaves bare pick
leaves_mark_bare (text b) = refl
leaves_mark_bare (tag n) = refl
leaves_mark_bare (call c) = refl

replacement_bare : (a : Option Mark) (xs : List Action) → spell_replacement a xs ≡ replacement_bytes bare a xs
unfolding spell_replacement replacement_bytes
replacement_bare a [] = refl
replacement_bare a (x ∷ xs) = rw (action_bare a x, leaves_mark_bare x, replacement_bare (action_leaves bare x) xs)

commands_bare : (cs : List Call) → commands_bytes spell_text cs ≡ commands_bytes (text_bytes bare) cs
unfolding commands_bytes
commands_bare [] = refl
commands_bare (c ∷ cs) = rw (call_bare c, commands_bare cs)

pub shortest_bare : (m : Macro) → shortest m ≡ spelled bare m
unfolding shortest spelled
shortest_bare m = rw (pattern_bare nothing m.pattern, replacement_bare none m.replacement, commands_bare m.commands, commands_bare m.before)

-- How many bytes the items of a macro have, and how many its shortest spelling.
use mathlib.Core.Path.{◌≡◌}
use mathlib.Core.Bool.{Bool, true, false}
use mathlib.Core.List.{List, [], ◌∷◌, ◌++◌}
use mathlib.Core.Option.{Option, none}
use Prim.Native.Nat.{ℕ, zero, suc, ◌+◌, ◌*◌, ◌/◌, ◌%◌, ◌≤◌}
use native.Mathlib.Omega.{arith}
use lib.Dec.{ltb}
use lib.ListN.{length, length-append}
use Rattle.macros.specs.Macro.{Member, Mark, PatternUnit, Piece, Move, Call, Action, Macro, pick, among}
use Rattle.macros.specs.Macro.Member.{single, range}
use Rattle.macros.specs.Macro.Mark.{stack, counter}
use Rattle.macros.specs.Macro.PatternUnit.{literal, kind, class, call_of}
use Rattle.macros.specs.Macro.Piece.{element, start, end, left, right}
use Rattle.macros.specs.Macro.Move.{still, before, after}
use Rattle.macros.specs.Macro.Call.{insert, store_tag, set_to, store_text, set_increment, divide}
use Rattle.macros.specs.Macro.Action.{text, tag, call}
use Rattle.macros.specs.Read.{Joinable}
use Rattle.macros.specs.ReadSoFar.Joinable.{nothing}
use Rattle.macros.specs.Write.{byte, digits_by, digits, name_bytes, inner_bytes, call_bytes, commands_bytes}
use Rattle.macros.specs.Spell.{Before, leaves, behind, none?, needs, needs_class, needs_text, spell_member, spell_members, spell_unit, spell_piece, spell_pattern, spell_text, leaves_mark, spell_action, spell_replacement, shortest}
use Rattle.macros.specs.Spell.Before.{bracket, tilde}
use Rattle.form_bytes.specs.Fours.{four}
use Rattle.form_table.specs.Form.{member_items, members_items, unit_rest, piece_items, pattern_items, call_items, calls_items, action_items, replacement_items, body}
use Rattle.form_table.specs.FormLaws.{BodySize}
use Rattle.form_table.proofs.Texts.{evened_size}

-- PATTERN

pub byte_size : (x : Bool) (b : ℕ) → 1 ≤ length (byte x b)
unfolding byte
byte_size true b = omega arith
byte_size false b = omega arith

member_size : (f : Before) (l : Bool) (m : Member) → length (member_items m) ≤ 2 * length (spell_member f l m)
unfolding member_items spell_member
member_size f l (single c) = omega (arith, byte_size (needs_class f l c) c)
member_size f l (range a z) = omega arith

members_size : (f : Before) (ms : List Member) → length (members_items ms) ≤ 2 * length (spell_members f ms)
unfolding members_items spell_members
members_size f [] = omega arith
members_size f (m ∷ ms) =
    simp length-append (omega (arith, member_size f (none? ms) m, members_size (behind m) ms))

unit_size : (h : Joinable) (u : PatternUnit) → length (unit_rest u) + 2 ≤ 2 * length (spell_unit h u)
unfolding unit_rest spell_unit
unit_size h (literal b) = omega (arith, byte_size (needs h b) b)
unit_size h (kind n) = omega arith
unit_size h (class true ms) = omega (arith, members_size tilde ms)
unit_size h (class false ms) = omega (arith, members_size bracket ms)
unit_size h (call_of m i) = omega arith

piece_size : (h : Joinable) (p : Piece) → length (piece_items p) ≤ 2 * length (spell_piece h p)
unfolding piece_items spell_piece
piece_size h (element u c) = simp length-append (omega (arith, unit_size h u))
piece_size h start = omega arith
piece_size h end = omega arith
piece_size h left = omega arith
piece_size h right = omega arith

pattern_size : (h : Joinable) (ps : List Piece) → length (pattern_items ps) ≤ 2 * length (spell_pattern h ps)
unfolding pattern_items spell_pattern
pattern_size h [] = omega arith
pattern_size h (p ∷ ps) = simp length-append (omega (arith, piece_size h p, pattern_size (leaves p) ps))

-- CALLS AND REPLACEMENT

digits_by_size : (k n : ℕ) → 1 ≤ length (digits_by k n)
unfolding digits_by pick
digits_by_size zero n = omega arith
digits_by_size (suc k) n = by (ltb n 10)
  where
    by : (x : Bool) → 1 ≤ length (pick x ((48 + n) ∷ []) (digits_by k (n / 10) ++ ((48 + n % 10) ∷ [])))
    by true = omega arith
    by false = simp length-append (omega arith)

pub digits_size : (n : ℕ) → 1 ≤ length (digits n)
unfolding digits
digits_size n = digits_by_size n n

name_size : (i : ℕ) (v : Move) → 1 ≤ length (name_bytes i v)
unfolding name_bytes
name_size i still = omega arith
name_size i (before s) = omega arith
name_size i (after s) = omega arith

text_size : (t : List ℕ) → length t ≤ length (spell_text t)
unfolding spell_text
text_size [] = omega arith
text_size (b ∷ t) = simp length-append (omega (arith, byte_size (among (47 ∷ 58 ∷ 39 ∷ 59 ∷ 10 ∷ 92 ∷ []) b) b, text_size t))

pub call_size : (c : Call) → length (call_items c) ≤ 2 * length (call_bytes spell_text c)
unfolding call_items call_bytes inner_bytes four
call_size (insert stack i v) = simp length-append (omega (arith, name_size i v))
call_size (insert counter i v) = simp length-append (omega (arith, name_size i v))
call_size (store_tag n i v) = simp length-append (omega (arith, digits_size n, name_size i v))
call_size (store_text i v t) = simp length-append (omega (arith, evened_size t, text_size t, name_size i v))
call_size (set_to stack i n) = simp length-append (omega (arith, digits_size n))
call_size (set_to counter i n) = simp length-append (omega (arith, digits_size n))
call_size (set_increment i n) = simp length-append (omega (arith, digits_size n))
call_size (divide i n) = simp length-append (omega (arith, digits_size n))

calls_size : (cs : List Call) → length (calls_items cs) ≤ 2 * length (commands_bytes spell_text cs)
unfolding calls_items commands_bytes
calls_size [] = omega arith
calls_size (c ∷ cs) = simp length-append (omega (arith, call_size c, calls_size cs))

action_size_lem : (a : Option Mark) (x : Action) → length (action_items x) ≤ 2 * length (spell_action a x)
unfolding action_items spell_action
action_size_lem a (text b) = omega (arith, byte_size (needs_text a b) b)
action_size_lem a (tag n) = simp length-append (omega arith)
action_size_lem a (call c) = call_size c

replacement_size : (a : Option Mark) (xs : List Action) → length (replacement_items xs) ≤ 2 * length (spell_replacement a xs)
unfolding replacement_items spell_replacement
replacement_size a [] = omega arith
replacement_size a (x ∷ xs) = simp length-append (omega (arith, action_size_lem a x, replacement_size (leaves_mark x) xs))

-- A MACRO

-- the shortest spelling by its four parts
pub shortest_size : (m : Macro) → length (shortest m)
    ≡ 6 + length (commands_bytes spell_text m.before) + length (spell_pattern nothing m.pattern)
    + length (spell_replacement none m.replacement) + length (commands_bytes spell_text m.commands)
unfolding shortest
shortest_size m = simp length-append (omega arith)

-- the items by their four parts
pub body_length : (m : Macro) → length (body m)
    ≡ length (calls_items m.before) + length (pattern_items m.pattern)
    + length (replacement_items m.replacement) + length (calls_items m.commands)
unfolding body
body_length m = simp length-append (omega arith)

pub body_size : BodySize
body_size m =
    omega (
      arith,
      shortest_size m,
      body_length m,
      calls_size m.before,
      pattern_size nothing m.pattern,
      replacement_size none m.replacement,
      calls_size m.commands,
    )

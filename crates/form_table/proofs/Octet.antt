-- Each byte of a form is at most 255.
use mathlib.Core.Bool.{true, false}
use mathlib.Core.List.{List, [], ◌∷◌, reverse_aux}
use Prim.Native.Nat.{ℕ, ◌≤◌, ◌<◌}
use native.Mathlib.Omega.{arith}
use lib.ListN.{length}
use Rattle.macros.specs.Bounds.{most_tags, most_entry_bytes}
use Rattle.macros.specs.Macro.{Closure, Member, Mark, PatternUnit, Piece, Move, Call, Action}
use Rattle.macros.specs.Macro.Closure.{once, one_or_more, zero_or_more}
use Rattle.macros.specs.Macro.Member.{single, range}
use Rattle.macros.specs.Macro.Mark.{stack, counter}
use Rattle.macros.specs.Macro.PatternUnit.{literal, kind, class, call_of}
use Rattle.macros.specs.Macro.Piece.{element, start, end, left, right}
use Rattle.macros.specs.Macro.Sign.{plus, minus}
use Rattle.macros.specs.Macro.Move.{still, before, after}
use Rattle.macros.specs.Macro.Call.{insert, store_tag, set_to, store_text, set_increment, divide}
use Rattle.macros.specs.Macro.Action.{text, tag, call}
use Rattle.macros.specs.Formed.{Octets, Bytes, FormedMember, FormedMembers, FormedUnit, FormedPieces, FormedCall, FormedAction, FormedReplacement, FormedCommands, limit, number_fits}
use Rattle.form_bytes.specs.Fours.{four}
use Rattle.form_table.specs.Form.{closure_code, unit_code, unit_operand, member_items, members_items, unit_rest, piece_items, pattern_items, move_code, call_items, calls_items, action_items, replacement_items}
use Rattle.form_table.proofs.Basics.{octets_append, range_bytes, within_high}
use Rattle.form_table.proofs.Order.{oldest}
use Rattle.form_table.proofs.Texts.{evened_octets}

pub closure_code_lem : (c : Closure) → closure_code c ≤ 2
unfolding closure_code
closure_code_lem once = omega arith
closure_code_lem one_or_more = omega arith
closure_code_lem zero_or_more = omega arith

pub unit_code_lem : (u : PatternUnit) → (2 ≤ unit_code u) × (unit_code u ≤ 7)
unfolding unit_code
unit_code_lem (literal b) = omega arith
unit_code_lem (kind n) = omega arith
unit_code_lem (call_of stack i) = omega arith
unit_code_lem (call_of counter i) = omega arith
unit_code_lem (class false ms) = omega arith
unit_code_lem (class true ms) = omega arith

member_octets : (m : Member) → FormedMember m → Octets (member_items m)
unfolding member_items
member_octets (single c) f = (omega arith, (f.1, tt))
member_octets (range a z) f = omega (arith, range_bytes a z f)

members_octets : (ms : List Member) → FormedMembers ms → Octets (members_items ms)
unfolding members_items
members_octets [] f = omega arith
members_octets (m ∷ ms) f = octets_append (member_items m) (members_items ms) (member_octets m f.0) (members_octets ms f.1)

unit_operand_lem : (u : PatternUnit) → FormedUnit u → unit_operand u ≤ 255
unfolding unit_operand
unit_operand_lem (literal b) f = omega arith
unit_operand_lem (kind n) f = omega arith
unit_operand_lem (call_of m i) f = omega arith
unit_operand_lem (class neg ms) f = omega arith

unit_rest_lem : (u : PatternUnit) → FormedUnit u → Octets (unit_rest u)
unfolding unit_rest
unit_rest_lem (literal b) f = tt
unit_rest_lem (kind n) f = tt
unit_rest_lem (call_of m i) f = tt
unit_rest_lem (class neg ms) f = members_octets ms f.1

piece_octets : (p : Piece) (qs : List Piece) → FormedPieces (p ∷ qs) → Octets (piece_items p)
unfolding piece_items
piece_octets (element u c) qs f = (omega (arith, unit_code_lem u, closure_code_lem c), (unit_operand_lem u f.0, unit_rest_lem u f.0))
piece_octets start qs f = omega arith
piece_octets end qs f = omega arith
piece_octets left qs f = omega arith
piece_octets right qs f = omega arith

pub pattern_octets : (ps qs : List Piece) → FormedPieces (reverse_aux ps qs) → Octets (pattern_items ps)
unfolding pattern_items
pattern_octets [] qs f = tt
pattern_octets (p ∷ ps) qs f = octets_append (piece_items p) (pattern_items ps) (piece_octets p qs (oldest ps (p ∷ qs) f)) (pattern_octets ps (p ∷ qs) f)

-- CALLS AND REPLACEMENT

pub move_code_lem : (v : Move) → move_code v ≤ 4
unfolding move_code
move_code_lem still = omega arith
move_code_lem (before plus) = omega arith
move_code_lem (before minus) = omega arith
move_code_lem (after plus) = omega arith
move_code_lem (after minus) = omega arith

four_octets : (n : ℕ) → n < 4294967296 → Octets (four n)
unfolding four
four_octets n h = omega arith

bytes_octets : (t : List ℕ) → Bytes t → Octets t
bytes_octets [] h = tt
bytes_octets (b ∷ t) h = (h.0.1, bytes_octets t h.1)

pub limit_fits : (m : Mark) → limit m ≤ 999999999
unfolding limit
limit_fits stack = omega arith
limit_fits counter = omega arith

call_octets : (k : ℕ) (c : Call) → k ≤ most_tags → FormedCall k c → Octets (call_items c)
unfolding call_items number_fits
call_octets k (insert stack i v) l f = omega (arith, move_code_lem v, f.names)
call_octets k (insert counter i v) l f = omega (arith, move_code_lem v, f.names)
call_octets k (store_tag n i v) l f = omega (arith, move_code_lem v, f.names, within_high 1 k n f.numbers)
call_octets k (store_text i v t) l f =
    let h : length t ≤ most_entry_bytes = f.names.2 in
    (omega (arith, move_code_lem v), (omega (arith, f.names.0), (omega arith, (omega arith, evened_octets t (bytes_octets t f.names.1)))))
call_octets k (set_to stack i n) l f = (omega arith, (omega (arith, f.names), four_octets n (omega (arith, limit_fits stack, within_high 1 (limit stack) n f.numbers))))
call_octets k (set_to counter i n) l f = (omega arith, (omega (arith, f.names), four_octets n (omega (arith, limit_fits counter, within_high 1 (limit counter) n f.numbers))))
call_octets k (set_increment i n) l f = (omega arith, (omega (arith, f.names), four_octets n (omega (arith, limit_fits counter, within_high 1 (limit counter) n f.numbers))))
call_octets k (divide i n) l f = (omega arith, (omega (arith, f.names), four_octets n (omega (arith, limit_fits counter, within_high 1 (limit counter) n f.numbers))))

action_octets : (k : ℕ) (a : Action) → k ≤ most_tags → FormedAction k a → Octets (action_items a)
unfolding action_items
action_octets k (text b) l f = omega arith
action_octets k (tag n) l f = omega arith
action_octets k (call c) l f = call_octets k c l f

pub replacement_octets : (k : ℕ) (xs : List Action) → k ≤ most_tags → FormedReplacement k xs → Octets (replacement_items xs)
unfolding replacement_items
replacement_octets k [] l f = tt
replacement_octets k (x ∷ xs) l f = octets_append (action_items x) (replacement_items xs) (action_octets k x l f.0) (replacement_octets k xs l f.1)

pub commands_octets : (k : ℕ) (cs : List Call) → k ≤ most_tags → FormedCommands k cs → Octets (calls_items cs)
unfolding calls_items
commands_octets k [] l f = tt
commands_octets k (c ∷ cs) l f = octets_append (call_items c) (calls_items cs) (call_octets k c l f.0.1) (commands_octets k cs l f.1)

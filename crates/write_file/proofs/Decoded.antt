-- The items of a piece or of an action are written out as the piece or the action is.
-- Assumes nothing.
use Prim.Native.Nat.{ℕ, ◌%◌, ◌<◌}
use mathlib.Core.Path.{◌≡◌, refl, ap, sym, ◌∙◌, subst}
use mathlib.Core.Bool.{true, false}
use mathlib.Core.List.{List, [], ◌∷◌, ◌++◌, append_assoc, append-nil, map, reverse, reverse_aux}
use native.Mathlib.Omega.{arith}
use lib.ListN.{drop, length-append}
use Rattle.macros.specs.Macro.{Member, Piece, Call, Action, pick, mark_byte}
use Rattle.macros.specs.Macro.Closure.{once, one_or_more, zero_or_more}
use Rattle.macros.specs.Macro.Member.{single, range}
use Rattle.macros.specs.Macro.Mark.{stack, counter}
use Rattle.macros.specs.Macro.PatternUnit.{literal, kind, class, call_of}
use Rattle.macros.specs.Macro.Piece.{element, start, end, left, right}
use Rattle.macros.specs.Macro.Sign.{plus, minus}
use Rattle.macros.specs.Macro.Move.{still, before, after}
use Rattle.macros.specs.Macro.Call.{insert, store_tag, set_to, store_text, set_increment, divide}
use Rattle.macros.specs.Macro.Action.{text, tag, call}
use Rattle.macros.specs.Formed.{FormedPieces}
use Rattle.macros.specs.Write.{write_member, write_members, write_unit, closure_bytes, write_piece, write_pattern, sign_byte, name_bytes, write_text, mark_of, inner_bytes, call_bytes, write_action, write_replacement, commands_bytes}
use Rattle.form_bytes.specs.Fours.{four}
use Rattle.form_bytes.proofs.Laws.{four_there}
use Rattle.form_table.specs.Form.{closure_code, unit_code, unit_operand, member_items, members_items, unit_rest, piece_items, pattern_items, move_code, call_items, action_items, replacement_items}
use Rattle.form_table.specs.Actions.{number_in, text_in, action_size}
use Rattle.write_pattern.specs.Items.{closure_text, unit_text, brace_byte, member_text, head_text, tail_text, item_text, pattern_text}
use Rattle.write_actions.specs.Items.{name_text, number_sign, call_byte, first_text, middle_text, last_text, call_text, open_text, end_text, action_text, actions_text, Whole}
use Rattle.write_actions.specs.Items.Whole.{none, next}
use Rattle.form_table.proofs.Actions.{even_taken, action_size_lem, action_some, action_rest}
use Rattle.write_actions.proofs.Steps.{actions_cons}

-- PATTERN

-- a kind has one digit
abbrev KindFits : Piece → Type 0
KindFits (element (kind n) c) = n < 10
KindFits (element (literal b) c) = Unit {0}
KindFits (element (class neg ms) c) = Unit {0}
KindFits (element (call_of m i) c) = Unit {0}
KindFits start = Unit {0}
KindFits end = Unit {0}
KindFits left = Unit {0}
KindFits right = Unit {0}

abbrev pub KindsFit : List Piece → Type 0
KindsFit [] = Unit {0}
KindsFit (p ∷ ps) = KindFits p × KindsFit ps

formed_kinds : (ps : List Piece) → FormedPieces ps → KindsFit ps
formed_kinds [] f = tt
formed_kinds (element (literal b) c ∷ ps) f = (tt, formed_kinds ps f.1)
formed_kinds (element (kind n) c ∷ ps) f = (let h = f.0.1 in omega arith, formed_kinds ps f.1)
formed_kinds (element (class neg ms) c ∷ ps) f = (tt, formed_kinds ps f.1)
formed_kinds (element (call_of m i) c ∷ ps) f = (tt, formed_kinds ps f.1)
formed_kinds (start ∷ ps) f = (tt, formed_kinds ps f)
formed_kinds (end ∷ ps) f = (tt, formed_kinds ps f)
formed_kinds (left ∷ ps) f = (tt, formed_kinds ps f.1)
formed_kinds (right ∷ ps) f = (tt, formed_kinds ps f.1)

one_digit : (n : ℕ) → n < 10 → n % 10 ≡ n
one_digit n h = omega arith

-- in either order
turned_rest : (ps qs : List Piece) → KindsFit (reverse_aux ps qs) → KindsFit qs
turned_rest [] qs f = f
turned_rest (p ∷ ps) qs f = (turned_rest ps (p ∷ qs) f).1

turned : (ps qs : List Piece) → KindsFit (reverse_aux ps qs) → KindsFit ps
turned [] qs f = tt
turned (p ∷ ps) qs f = ((turned_rest ps (p ∷ qs) f).0, turned ps (p ∷ qs) f)

pub pattern_kinds : (ps : List Piece) → FormedPieces (reverse ps) → KindsFit ps
pattern_kinds ps f = turned ps [] (formed_kinds (reverse ps) f)

members_text : (h : ℕ) (ms : List Member) (r : List ℕ) → pattern_text h (members_items ms ++ r) ≡ (write_members ms ++ closure_text h) ++ pattern_text h r
unfolding pattern_text members_items member_items item_text head_text tail_text member_text write_members write_member pick
members_text h [] r = refl
members_text h (single c ∷ ms) r = rw (members_text h ms r) (simp (append-nil, append_assoc))
members_text h (range a z ∷ ms) r = rw (members_text h ms r)

module _ (h : ℕ) (r w : List ℕ) (ih : (k : ℕ) → pattern_text k r ≡ w) where
  piece_text : (p : Piece) → KindFits p → pattern_text h (piece_items p ++ r) ≡ write_piece p ++ w
  unfolding pattern_text piece_items unit_code closure_code unit_operand unit_rest item_text head_text tail_text unit_text brace_byte closure_text write_piece write_unit closure_bytes mark_byte pick
  piece_text (element (literal b) once) f = rw ih
  piece_text (element (literal b) one_or_more) f = rw ih
  piece_text (element (literal b) zero_or_more) f = rw ih
  piece_text (element (kind n) once) f = rw (one_digit n f, ih)
  piece_text (element (kind n) one_or_more) f = rw (one_digit n f, ih)
  piece_text (element (kind n) zero_or_more) f = rw (one_digit n f, ih)
  piece_text (element (class true ms) once) f = rw (members_text 28 ms r, ih)
  piece_text (element (class true ms) one_or_more) f = rw (members_text 29 ms r, ih)
  piece_text (element (class true ms) zero_or_more) f = rw (members_text 30 ms r, ih)
  piece_text (element (class false ms) once) f = rw (members_text 24 ms r, ih)
  piece_text (element (class false ms) one_or_more) f = rw (members_text 25 ms r, ih)
  piece_text (element (class false ms) zero_or_more) f = rw (members_text 26 ms r, ih)
  piece_text (element (call_of stack i) once) f = rw ih
  piece_text (element (call_of stack i) one_or_more) f = rw ih
  piece_text (element (call_of stack i) zero_or_more) f = rw ih
  piece_text (element (call_of counter i) once) f = rw ih
  piece_text (element (call_of counter i) one_or_more) f = rw ih
  piece_text (element (call_of counter i) zero_or_more) f = rw ih
  piece_text start f = rw ih
  piece_text end f = rw ih
  piece_text left f = rw ih
  piece_text right f = rw ih

pub pattern_text_lem : (ps : List Piece) → KindsFit ps → (h : ℕ) → pattern_text h (pattern_items ps) ≡ write_pattern ps
unfolding pattern_items write_pattern pattern_text
pattern_text_lem [] f h = refl
pattern_text_lem (p ∷ ps) f h = piece_text h (pattern_items ps) (write_pattern ps) (pattern_text_lem ps f.1) p f.0

-- ACTIONS

call_text_lem : (c : Call) (r : List ℕ) → action_text (call_items c ++ r) ≡ call_bytes write_text c
unfolding action_text open_text end_text call_items move_code four call_byte call_text number_sign first_text middle_text last_text name_text text_in number_in call_bytes inner_bytes name_bytes sign_byte mark_of mark_byte pick
call_text_lem (insert stack i still) r = refl
call_text_lem (insert stack i (before plus)) r = refl
call_text_lem (insert stack i (before minus)) r = refl
call_text_lem (insert stack i (after plus)) r = refl
call_text_lem (insert stack i (after minus)) r = refl
call_text_lem (insert counter i still) r = refl
call_text_lem (insert counter i (before plus)) r = refl
call_text_lem (insert counter i (before minus)) r = refl
call_text_lem (insert counter i (after plus)) r = refl
call_text_lem (insert counter i (after minus)) r = refl
call_text_lem (store_tag n i still) r = simp append_assoc
call_text_lem (store_tag n i (before plus)) r = simp append_assoc
call_text_lem (store_tag n i (before minus)) r = simp append_assoc
call_text_lem (store_tag n i (after plus)) r = simp append_assoc
call_text_lem (store_tag n i (after minus)) r = simp append_assoc
call_text_lem (set_to stack i n) r = rw (four_there n)
call_text_lem (set_to counter i n) r = rw (four_there n)
call_text_lem (store_text i still t) r = rw (even_taken t r)
call_text_lem (store_text i (before plus) t) r = rw (even_taken t r)
call_text_lem (store_text i (before minus) t) r = rw (even_taken t r)
call_text_lem (store_text i (after plus) t) r = rw (even_taken t r)
call_text_lem (store_text i (after minus) t) r = rw (even_taken t r)
call_text_lem (set_increment i n) r = rw (four_there n)
call_text_lem (divide i n) r = rw (four_there n)

action_text_lem : (a : Action) (r : List ℕ) → action_text (action_items a ++ r) ≡ write_action a
unfolding action_items write_action action_text open_text end_text pick
action_text_lem (text b) r = append-nil _
action_text_lem (tag n) r = refl
action_text_lem (call c) r = call_text_lem c r

pub actions_text_lem : (xs : List Action) → actions_text 0 (replacement_items xs) ≡ write_replacement xs
unfolding replacement_items write_replacement actions_text
actions_text_lem [] = refl
actions_text_lem (a ∷ xs) =
    let l = length-append (action_items a) (replacement_items xs) in
    let z = action_some a in
    actions_cons (action_items a ++ replacement_items xs) (omega arith)
    ∙ ap (λ (x : List ℕ). x ++ actions_text 0 (drop (action_size (action_items a ++ replacement_items xs)) (action_items a ++ replacement_items xs))) (action_text_lem a (replacement_items xs))
    ∙ ap (λ (x : List ℕ). write_action a ++ actions_text 0 x) (action_rest a (replacement_items xs))
    ∙ ap (λ (x : List ℕ). write_action a ++ x) (actions_text_lem xs)

pub actions_whole : (xs : List Action) → Whole (replacement_items xs)
unfolding replacement_items
actions_whole [] = none
actions_whole (a ∷ xs) =
    let l = length-append (action_items a) (replacement_items xs) in
    let z = action_some a in
    let s = action_size_lem a (replacement_items xs) in
    next {t = action_items a ++ replacement_items xs} (omega arith) (omega arith) (subst Whole (sym (action_rest a (replacement_items xs))) (actions_whole xs))

-- commands are actions too
pub calls_text : (cs : List Call) → commands_bytes write_text cs ≡ write_replacement (map call cs)
unfolding commands_bytes write_replacement write_action
calls_text [] = refl
calls_text (c ∷ cs) = ap (λ (x : List ℕ). call_bytes write_text c ++ x) (calls_text cs)

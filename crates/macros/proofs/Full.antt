-- Writing out is spelling in the full style: nothing needs a `\` beyond those that it puts.
use mathlib.Core.Path.{refl, ◌≡◌}
use mathlib.Core.Bool.{◌&&◌, Bool, and-false, false, not, true, ◌||◌}
use mathlib.Core.List.{List, [], ◌∷◌}
use mathlib.Core.Option.{none}
use Prim.Native.Nat.{ℕ}
use lib.Dec.{eqb}
use Rattle.macros.specs.Macro.{Action, Call, Macro, Member, PatternUnit, Piece, among, pick}
use Rattle.macros.specs.Macro.Closure.{once, one_or_more, zero_or_more}
use Rattle.macros.specs.Macro.Member.{range, single}
use Rattle.macros.specs.Macro.PatternUnit.{call_of, class, kind, literal}
use Rattle.macros.specs.Macro.Piece.{element, end, left, right, start}
use Rattle.macros.specs.Macro.Call.{divide, insert, set_increment, set_to, store_tag, store_text}
use Rattle.macros.specs.Macro.Action.{call, tag, text}
use Rattle.macros.specs.Read.{Joinable, hold, signs}
use Rattle.macros.specs.ReadSoFar.Joinable.{marked, nothing, query, starred, unit}
use Rattle.macros.specs.Write.{call_bytes, class_marks, commands_bytes, inner_bytes, pattern_marks, text_marks, write_action, write_member, write_members, write_pattern, write_piece, write_replacement, write_text, write_unit, written}
use Rattle.macros.specs.Spell.{Before, behind, is_mark, joins, joins_class, mark_in, needs, needs_class, needs_text, none?}
use Rattle.macros.specs.Spell.Before.{a_range, a_single, bracket, tilde}
use Rattle.macros.specs.Spell.{class_signs, text_signs, call_text_signs}
use Rattle.macros.proofs.Tests.{absent, adds_nothing, among_more, and_left, clash, holds, or_cases, single_among}
use Rattle.macros.proofs.Styles.{action_bytes, action_leaves, class_bytes, full, member_bytes, members_bytes, pattern_bytes, piece_bytes, piece_leaves, replacement_bytes, spelled, text_bytes, unit_bytes, unit_leaves}

-- what the full style leaves: never a raw `?`, `&` or `#`
Calm : Joinable → Type 0
Calm nothing = Unit {0}
Calm (unit u) = Unit {0}
Calm (starred u) = Unit {0}
Calm query = ⊥
Calm (marked m) = ⊥

pattern_adds : (h : Joinable) (b : ℕ) → Calm h → (among pattern_marks b || needs h b) ≡ among pattern_marks b
unfolding Calm needs joins pattern_marks signs among holds
pattern_adds h b c =
    adds_nothing (among pattern_marks b) (needs h b)
    (or_cases (among (47 ∷ signs) b) (joins h b) (among pattern_marks b) (among_more pattern_marks (47 ∷ signs) b refl) (by h c))
  where
    by : (h : Joinable) → Calm h → joins h b ≡ true → among pattern_marks b ≡ true
    by nothing c e = clash e refl
    by (unit u) c e = clash e refl
    by (starred u) c e = single_among pattern_marks b 45 refl e
    by query c e = absurd c
    by (marked m) c e = absurd c

class_adds : (c : Before) (is_last : Bool) (b : ℕ) → (among class_marks b || needs_class c is_last b) ≡ among class_marks b
unfolding needs_class joins_class class_marks among holds
class_adds c is_last b =
    adds_nothing (among class_marks b) (needs_class c is_last b)
    (or_cases (among class_signs b) (joins_class c is_last b) (among class_marks b) (among_more class_marks class_signs b refl) (by c))
  where
    by : (c : Before) → joins_class c is_last b ≡ true → among class_marks b ≡ true
    by bracket e = single_among class_marks b 126 refl e
    by tilde e = clash e refl
    by a_single e = single_among class_marks b 45 refl (and_left (eqb b 45) (not is_last) e)
    by a_range e = clash e refl

text_adds : (b : ℕ) → (among text_marks b || needs_text none b) ≡ among text_marks b
unfolding needs_text is_mark text_marks among holds
text_adds b =
    adds_nothing (among text_marks b) (needs_text none b)
    (or_cases (among text_signs b) (eqb b 40 && false) (among text_marks b) (among_more text_marks text_signs b refl) (λ e. clash e (and-false (eqb b 40))))

call_text_adds : (b : ℕ) → (among text_marks b || among call_text_signs b) ≡ among text_marks b
unfolding text_marks among holds
call_text_adds b = adds_nothing (among text_marks b) (among call_text_signs b) (among_more text_marks call_text_signs b refl)

calm_literal : (b : ℕ) → Calm (unit_leaves full (literal b))
unfolding Calm unit_leaves full pick hold pattern_marks among
calm_literal b = by (among pattern_marks b) refl
  where
    by : (p : Bool) → among pattern_marks b ≡ p → Calm (pick p (unit (literal b)) (hold b))
    by true e = tt
    by false e = simp (absent pattern_marks b 63 e refl, absent pattern_marks b 38 e refl, absent pattern_marks b 35 e refl) tt

calm : (p : Piece) → Calm (piece_leaves full p)
unfolding Calm piece_leaves unit_leaves
calm (element (literal b) once) = calm_literal b
calm (element (kind k) once) = tt
calm (element (class neg ms) once) = tt
calm (element (call_of m i) once) = tt
calm (element u one_or_more) = tt
calm (element u zero_or_more) = tt
calm start = tt
calm end = tt
calm left = tt
calm right = tt

members_full : (c : Before) (ms : List Member) → write_members ms ≡ members_bytes full c ms
unfolding write_members write_member members_bytes member_bytes full
members_full c [] = refl
members_full c (single a ∷ ms) = rw (class_adds c (none? ms) a, members_full (behind (single a)) ms)
members_full c (range a z ∷ ms) = rw (members_full (behind (range a z)) ms)

unit_full : (h : Joinable) (u : PatternUnit) → Calm h → write_unit u ≡ unit_bytes full h u
unfolding write_unit unit_bytes class_bytes full
unit_full h (literal b) c = rw (pattern_adds h b c)
unit_full h (kind k) c = refl
unit_full h (class true ms) c = rw (members_full tilde ms)
unit_full h (class false ms) c = rw (members_full bracket ms)
unit_full h (call_of m i) c = refl

piece_full : (h : Joinable) (p : Piece) → Calm h → write_piece p ≡ piece_bytes full h p
unfolding write_piece piece_bytes
piece_full h (element u k) c = rw (unit_full h u c)
piece_full h start c = refl
piece_full h end c = refl
piece_full h left c = refl
piece_full h right c = refl

pattern_full : (h : Joinable) (ps : List Piece) → Calm h → write_pattern ps ≡ pattern_bytes full h ps
unfolding write_pattern pattern_bytes
pattern_full h [] c = refl
pattern_full h (p ∷ ps) c = cc (piece_full h p c, pattern_full (piece_leaves full p) ps (calm p))

text_full : (t : List ℕ) → write_text t ≡ text_bytes full t
unfolding write_text text_bytes full
text_full [] = refl
text_full (b ∷ t) = rw (call_text_adds b, text_full t)

call_full : (c : Call) → call_bytes write_text c ≡ call_bytes (text_bytes full) c
unfolding call_bytes inner_bytes
call_full (insert m i h) = refl
call_full (store_tag n i h) = refl
call_full (set_to m i n) = refl
call_full (store_text i h t) = rw (text_full t)
call_full (set_increment i n) = refl
call_full (divide i n) = refl

unmarked_full : (p : Action) → action_leaves full p ≡ none
unfolding action_leaves full pick mark_in text_marks among
unmarked_full (text b) = by (among text_marks b) refl
  where
    by : (p : Bool) → among text_marks b ≡ p → pick p none (mark_in b) ≡ none
    by true e = refl
    by false e = simp (absent text_marks b 38 e refl, absent text_marks b 35 e refl)
unmarked_full (tag n) = refl
unmarked_full (call c) = refl

action_full : (p : Action) → write_action p ≡ action_bytes full none p
unfolding write_action action_bytes full
action_full (text b) = rw (text_adds b)
action_full (tag n) = refl
action_full (call c) = call_full c

replacement_full : (ps : List Action) → write_replacement ps ≡ replacement_bytes full none ps
unfolding write_replacement replacement_bytes
replacement_full [] = refl
replacement_full (p ∷ ps) = rw (action_full p, replacement_full ps, unmarked_full p)

commands_full : (cs : List Call) → commands_bytes write_text cs ≡ commands_bytes (text_bytes full) cs
unfolding commands_bytes
commands_full [] = refl
commands_full (c ∷ cs) = rw (call_full c, commands_full cs)

pub written_full : (m : Macro) → written m ≡ spelled full m
unfolding written spelled Calm
written_full m = rw (pattern_full nothing m.pattern tt, replacement_full m.replacement, commands_full m.commands, commands_full m.before)

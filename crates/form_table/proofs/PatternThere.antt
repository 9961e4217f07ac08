-- The walk over a pattern accepts the items of well formed pieces.
use mathlib.Core.Path.{◌≡◌, refl, ap, ◌∙◌}
use mathlib.Core.Bool.{Bool, true, false, ◌&&◌}
use mathlib.Core.List.{List, [], ◌∷◌, ◌++◌, append_assoc, reverse, reverse_aux}
use mathlib.Core.Option.{some}
use Prim.Native.Nat.{ℕ, ◌+◌, ◌*◌, ◌<◌}
use native.Mathlib.Omega.{arith}
use lib.Dec.{eqb}
use lib.ListN.{length}
use borrow.Author.Tests.{eq-eqb, lt-ltb, le-ltb}
use Rattle.macros.specs.Bounds.{most_tags}
use Rattle.macros.specs.Macro.{Closure, Member, PatternUnit, Piece, pick, tags, elements, depth}
use Rattle.macros.specs.Macro.Member.{single, range}
use Rattle.macros.specs.Macro.PatternUnit.{literal, kind, class, call_of}
use Rattle.macros.specs.Macro.Piece.{element, start, end, left, right}
use Rattle.macros.specs.Formed.{FormedUnit, FormedMember, FormedMembers, FormedPieces, FormedPattern}
use Rattle.form_table.specs.Form.{closure_code, unit_code, unit_operand, member_items, members_items, unit_rest, piece_items, pattern_items}
use Rattle.form_table.specs.Walk.{given, walk}
use Rattle.form_table.specs.PatternWalk.{element_at, element_step, sign_step, piece_step, some_member, member_spot, behind_single, member_step, range_step, pattern_step, pattern_start, pattern_ends}
use Rattle.form_table.specs.PatternWalk.Inside.{at_single, at_dash}
use Rattle.form_table.proofs.Basics.{within_of}
use Rattle.form_table.proofs.Order.{oldest}
use Rattle.form_table.proofs.Octet.{unit_code_lem}
use Rattle.form_table.proofs.Walks.{walk_on}
use Rattle.form_table.proofs.PatternCodes.{head, unit_of_lem, closure_of_lem, code_unit_lem, code_closure_lem}
use Rattle.form_table.proofs.PatternCost.{top, cost, joint_of, spot_of}
use Rattle.form_table.proofs.PatternStates.{Walked, state_of, at_literal, at_kind, at_call, at_class_lem, at_single_lem, at_end_lem, at_range_lem, at_shut, at_left, at_right, at_start_lem, at_dollar}
use Rattle.form_table.proofs.PatternStates.Walked.{pieces, members, ends}

-- one step, to a state by what has been walked over
on : (w v : Walked) (c o : ℕ) (l : List ℕ) → pattern_step (state_of w) c o ≡ some (state_of v) → walk pattern_step (state_of w) (c ∷ o ∷ l) ≡ walk pattern_step (state_of v) l
on w v c o l e = walk_on pattern_step (state_of w) (state_of v) c o l e

-- CLASSES

behind_member : (neg : Bool) (m : Member) (ms : List Member) → some_member (spot_of neg (m ∷ ms)) ≡ true
unfolding some_member member_spot pick
behind_member neg (single b) ms = by (eqb b 45 && behind_single (spot_of neg ms))
  where
    by : (x : Bool) → some_member (pick x at_dash at_single) ≡ true
    by true = refl
    by false = refl
behind_member neg (range a z) ms = refl

module _ (ps : List Piece) (neg : Bool) (k : Closure) where
  member_there : (ms : List Member) (m : Member) (l : List ℕ) → FormedMember m
      → walk pattern_step (state_of (members ps neg k ms)) (member_items m ++ l) ≡ walk pattern_step (state_of (members ps neg k (m ∷ ms))) l
  unfolding member_items pattern_step member_step range_step pick given
  member_there ms (single b) l f =
      on (members ps neg k ms) (members ps neg k (single b ∷ ms)) 32 b l
      (rw (within_of 1 255 b f.0 f.1) (ap some (at_single_lem ps k neg ms b)))
  member_there ms (range a z) l f =
      on (members ps neg k ms) (ends ps neg k ms a) 33 a (34 ∷ z ∷ l) (ap some (at_end_lem ps k neg ms a))
      ∙ on (ends ps neg k ms a) (members ps neg k (range a z ∷ ms)) 34 z l (rw f (ap some (at_range_lem ps k neg ms a z)))

  members_there : (ms : List Member) (qs : List Member) (l : List ℕ) → FormedMembers ms → 0 < length qs + length ms
      → walk pattern_step (state_of (members ps neg k qs)) (members_items ms ++ l) ≡ walk pattern_step (state_of (pieces (element (class neg (reverse_aux qs ms)) k ∷ ps))) l
  unfolding members_items pattern_step member_step pick given
  members_there [] [] l f h = absurd (omega arith)
  members_there [] (m ∷ qs) l f h =
      on (members ps neg k (m ∷ qs)) (pieces (element (class neg (reverse (m ∷ qs))) k ∷ ps)) 35 0 l
      (rw (behind_member neg m qs) (ap some (at_shut ps k neg qs m)))
  members_there (m ∷ ms) qs l f h =
      rw (append_assoc (member_items m) (members_items ms) l)
      (member_there qs m (members_items ms ++ l) f.0 ∙ members_there ms (m ∷ qs) l f.1 (omega arith))

-- PIECES

module _ (ps : List Piece) (l : List ℕ) where
  unit_there : (u : PatternUnit) (k : Closure) → FormedUnit u → pattern_step (state_of (pieces ps)) (4 * unit_code u + closure_code k) (unit_operand u)
      ≡ some (element_at (6 + cost ps) (tags ps) (depth ps) (elements ps) (joint_of (top ps)) (head u) k)
  unfolding pattern_step piece_step element_step pick
  unit_there u k f =
      rw (le-ltb (4 * unit_code u + closure_code k) 8 (omega (arith, unit_code_lem u)), code_unit_lem u k, code_closure_lem u k, unit_of_lem u f, closure_of_lem k)

  element_there : (u : PatternUnit) (k : Closure) → FormedUnit u
      → walk pattern_step (state_of (pieces ps)) (piece_items (element u k) ++ l) ≡ walk pattern_step (state_of (pieces (element u k ∷ ps))) l
  unfolding piece_items unit_rest
  element_there (literal b) k f = on (pieces ps) (pieces (element (literal b) k ∷ ps)) _ _ l (unit_there (literal b) k f ∙ ap some (at_literal ps k b))
  element_there (kind n) k f = on (pieces ps) (pieces (element (kind n) k ∷ ps)) _ _ l (unit_there (kind n) k f ∙ ap some (at_kind ps k n))
  element_there (call_of m i) k f = on (pieces ps) (pieces (element (call_of m i) k ∷ ps)) _ _ l (unit_there (call_of m i) k f ∙ ap some (at_call ps k m i))
  element_there (class neg ms) k f =
      on (pieces ps) (members ps neg k []) _ _ (members_items ms ++ l) (unit_there (class neg ms) k f ∙ ap some (at_class_lem ps k neg))
      ∙ members_there ps neg k ms [] l f.1 (omega (arith, f.0))

  piece_there : (p : Piece) → FormedPieces (p ∷ ps) → walk pattern_step (state_of (pieces ps)) (piece_items p ++ l) ≡ walk pattern_step (state_of (pieces (p ∷ ps))) l
  unfolding piece_items pattern_step piece_step sign_step pick given
  piece_there (element u k) f = element_there u k f.0
  piece_there left f = on (pieces ps) (pieces (left ∷ ps)) 1 0 l (rw (lt-ltb (tags ps) most_tags f.0) (ap some (at_left ps)))
  piece_there right f = on (pieces ps) (pieces (right ∷ ps)) 2 0 l (rw (lt-ltb 0 (depth ps) f.0) (ap some (at_right ps)))
  piece_there start f = on (pieces ps) (pieces (start ∷ ps)) 3 0 l (ap some (at_start_lem ps))
  piece_there end f = on (pieces ps) (pieces (end ∷ ps)) 4 0 l (ap some (at_dollar ps))

pieces_there : (qs ps : List Piece) → FormedPieces (reverse_aux qs ps) → walk pattern_step (state_of (pieces ps)) (pattern_items qs) ≡ some (state_of (pieces (reverse_aux qs ps)))
unfolding pattern_items walk
pieces_there [] ps f = refl
pieces_there (p ∷ qs) ps f = piece_there ps (pattern_items qs) p (oldest qs (p ∷ ps) f) ∙ pieces_there qs (p ∷ ps) f

pub pattern_there : (qs : List Piece) → FormedPieces (reverse qs) → walk pattern_step pattern_start (pattern_items qs) ≡ some (state_of (pieces (reverse qs)))
unfolding pattern_start cost tags depth elements joint_of
pattern_there qs f = pieces_there qs [] f

pub pattern_ends_lem : (ps : List Piece) → FormedPattern ps → pattern_ends (tags ps) (state_of (pieces ps)) ≡ true
unfolding pattern_ends
pattern_ends_lem ps f = simp (eq-eqb (tags ps) (tags ps) refl, f.shut, lt-ltb 0 (elements ps) f.some_element)

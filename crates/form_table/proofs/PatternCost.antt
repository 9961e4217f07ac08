-- What has been walked over of a pattern, newest first: its items, and the bytes that its shortest spelling has so far.
use mathlib.Core.Path.{◌≡◌, refl, ◌∙◌}
use mathlib.Core.Bool.{Bool, true, false, ◌&&◌, ◌||◌, and-true, and-false, or-false}
use mathlib.Core.List.{List, [], ◌∷◌, reverse, reverse_aux}
use Prim.Native.Nat.{ℕ, ◌+◌}
use native.Mathlib.Omega.{arith}
use lib.Dec.{eqb}
use lib.ListN.{length, length-append}
use borrow.Author.Tests.{eqb-true}
use Rattle.macros.specs.Macro.{Closure, Member, PatternUnit, Piece, pick, among}
use Rattle.macros.specs.Macro.Closure.{once, one_or_more, zero_or_more}
use Rattle.macros.specs.Macro.Member.{single, range}
use Rattle.macros.specs.Macro.Mark.{stack, counter}
use Rattle.macros.specs.Macro.PatternUnit.{literal, class}
use Rattle.macros.specs.Macro.Piece.{element}
use Rattle.macros.specs.Read.{Joinable, hold}
use Rattle.macros.specs.ReadSoFar.Joinable.{nothing, unit, starred, query, marked}
use Rattle.macros.specs.Write.{closure_bytes}
use Rattle.macros.specs.Spell.{Before, joins, needs, leaves_unit, leaves, joins_class, needs_class, none?, behind, spell_member, spell_members, spell_unit, spell_piece, spell_pattern}
use Rattle.macros.specs.Spell.Before.{bracket, tilde, a_single, a_range}
use Rattle.form_table.specs.Walk.{bit}
use Rattle.form_table.specs.PatternWalk.{Joint, Inside, closure_length, closure_joint, joins_at, literal_length, literal_joint, opening, owed, at_start, behind_single, member_length, member_spot}
use Rattle.form_table.specs.PatternWalk.Joint.{loose, after_star, after_query, after_mark}
use Rattle.form_table.specs.PatternWalk.Inside.{at_bracket, at_tilde, at_single, at_dash, at_range}
use Rattle.form_table.proofs.Walks.{byte_length}

-- PIECES

abbrev pub top : List Piece → Joinable
top [] = nothing
top (p ∷ ps) = leaves p

unfoldable pub cost : List Piece → ℕ
cost [] = 0
cost (p ∷ ps) = cost ps + length (spell_piece (top ps) p)

cost_onto : (ps l : List Piece) → length (spell_pattern nothing (reverse_aux ps l)) ≡ cost ps + length (spell_pattern (top ps) l)
unfolding cost spell_pattern
cost_onto [] l = omega arith
cost_onto (p ∷ ps) l = cost_onto ps (p ∷ l) ∙ omega (arith, length-append (spell_piece (top ps) p) (spell_pattern (leaves p) l))

pub cost_spelled : (ps : List Piece) → length (spell_pattern nothing (reverse ps)) ≡ cost ps
unfolding spell_pattern
cost_spelled ps = cost_onto ps [] ∙ omega arith

-- what may be joined
unfoldable pub joint_of : Joinable → Joint
joint_of nothing = loose
joint_of (unit u) = loose
joint_of (starred u) = after_star
joint_of query = after_query
joint_of (marked m) = after_mark

joins_at_lem : (h : Joinable) (b : ℕ) → joins h b ≡ joins_at (joint_of h) b
unfolding joins joins_at joint_of
joins_at_lem nothing b = refl
joins_at_lem (unit u) b = refl
joins_at_lem (starred u) b = refl
joins_at_lem query b = refl
joins_at_lem (marked m) b = refl

pub literal_joint_lem : (b : ℕ) → joint_of (hold b) ≡ literal_joint b
unfolding joint_of hold literal_joint pick
literal_joint_lem b = by (eqb b 63) (eqb b 38) (eqb b 35)
  where
    by : (x y z : Bool) → joint_of (pick x query (pick y (marked stack) (pick z (marked counter) (unit (literal b)))))
        ≡ pick x after_query (pick y after_mark (pick z after_mark loose))
    by true y z = refl
    by false true z = refl
    by false false true = refl
    by false false false = refl

pub closure_length_lem : (k : Closure) → length (closure_bytes k) ≡ closure_length k
unfolding closure_bytes closure_length
closure_length_lem once = refl
closure_length_lem one_or_more = refl
closure_length_lem zero_or_more = refl

pub closure_joint_lem : (u : PatternUnit) (k : Closure) → joint_of (leaves (element u k)) ≡ closure_joint (joint_of (leaves_unit u)) k
unfolding leaves joint_of closure_joint
closure_joint_lem u once = refl
closure_joint_lem u one_or_more = refl
closure_joint_lem u zero_or_more = refl

pub literal_length_lem : (h : Joinable) (b : ℕ) → length (spell_unit h (literal b)) ≡ literal_length (joint_of h) b
unfolding spell_unit needs literal_length
literal_length_lem h b = byte_length (needs h b) b ∙ rw (joins_at_lem h b)

-- CLASSES

abbrev pub before_of : Inside → Before
before_of at_bracket = bracket
before_of at_tilde = tilde
before_of at_single = a_single
before_of at_dash = a_single
before_of at_range = a_range

-- where the walk stands behind members
abbrev pub spot_of : Bool → List Member → Inside
spot_of neg [] = opening neg
spot_of neg (single b ∷ ms) = member_spot (spot_of neg ms) b
spot_of neg (range a z ∷ ms) = at_range

spot_behind : (neg : Bool) (m : Member) (ms : List Member) → behind m ≡ before_of (spot_of neg (m ∷ ms))
unfolding behind member_spot pick
spot_behind neg (single b) ms = by (eqb b 45 && behind_single (spot_of neg ms))
  where
    by : (x : Bool) → a_single ≡ before_of (pick x at_dash at_single)
    by true = refl
    by false = refl
spot_behind neg (range a z) ms = refl

-- the members' bytes if one more follows, and if none does
unfoldable pub cost_followed : Bool → List Member → ℕ
cost_followed neg [] = 0
cost_followed neg (m ∷ ms) = cost_followed neg ms + length (spell_member (before_of (spot_of neg ms)) false m)

unfoldable pub cost_last : Bool → List Member → ℕ
cost_last neg [] = 0
cost_last neg (m ∷ ms) = cost_followed neg ms + length (spell_member (before_of (spot_of neg ms)) true m)

pub last_length : (w : Inside) (b : ℕ) → length (spell_member (before_of w) true (single b)) ≡ member_length w b
unfolding spell_member needs_class joins_class member_length at_start
last_length at_bracket b = byte_length _ b ∙ simp and-true
last_length at_tilde b = byte_length _ b ∙ simp and-false
last_length at_single b = byte_length _ b ∙ simp and-false
last_length at_dash b = byte_length _ b ∙ simp and-false
last_length at_range b = byte_length _ b ∙ simp and-false

dash_length : (b : ℕ) → 1 + bit (among (93 ∷ 39 ∷ 59 ∷ 10 ∷ 92 ∷ []) b || eqb b 45 && true)
    ≡ 1 + bit (among (93 ∷ 39 ∷ 59 ∷ 10 ∷ 92 ∷ []) b || eqb b 126 && false) + owed (pick (eqb b 45 && true) at_dash at_single)
unfolding owed pick bit among
dash_length b = by (eqb b 45) refl
  where
    by : (x : Bool) → eqb b 45 ≡ x → 1 + bit (among (93 ∷ 39 ∷ 59 ∷ 10 ∷ 92 ∷ []) b || x && true)
        ≡ 1 + bit (among (93 ∷ 39 ∷ 59 ∷ 10 ∷ 92 ∷ []) b || eqb b 126 && false) + owed (pick (x && true) at_dash at_single)
    by true e = rw (eqb-true b 45 e)
    by false e = simp (and-false, or-false) (omega arith)

followed_length : (w : Inside) (b : ℕ) → length (spell_member (before_of w) false (single b)) ≡ member_length w b + owed (member_spot w b)
unfolding spell_member needs_class joins_class member_length at_start member_spot behind_single owed pick
followed_length at_bracket b = byte_length _ b ∙ simp (and-true, and-false) (omega arith)
followed_length at_tilde b = byte_length _ b ∙ simp and-false (omega arith)
followed_length at_single b = byte_length _ b ∙ dash_length b
followed_length at_dash b = byte_length _ b ∙ dash_length b
followed_length at_range b = byte_length _ b ∙ simp and-false (omega arith)

pub cost_owed : (neg : Bool) (ms : List Member) → cost_followed neg ms ≡ cost_last neg ms + owed (spot_of neg ms)
unfolding cost_followed cost_last spell_member owed opening
cost_owed true [] = refl
cost_owed false [] = refl
cost_owed neg (single b ∷ ms) = omega (arith, last_length (spot_of neg ms) b, followed_length (spot_of neg ms) b)
cost_owed neg (range a z ∷ ms) = omega arith

members_onto : (neg : Bool) (ms : List Member) (x : Member) (l : List Member)
    → length (spell_members (before_of (opening neg)) (reverse_aux ms (x ∷ l))) ≡ cost_followed neg ms + length (spell_members (before_of (spot_of neg ms)) (x ∷ l))
unfolding cost_followed spell_members none?
members_onto neg [] x l = omega arith
members_onto neg (m ∷ ms) x l =
    members_onto neg ms m (x ∷ l)
    ∙ rw (← (spot_behind neg m ms)) (omega (arith, length-append (spell_member (before_of (spot_of neg ms)) false m) (spell_members (behind m) (x ∷ l))))

pub class_length : (h : Joinable) (neg : Bool) (m : Member) (ms : List Member)
    → length (spell_unit h (class neg (reverse (m ∷ ms)))) ≡ 2 + bit neg + cost_last neg (m ∷ ms)
unfolding spell_unit bit spell_members cost_last none? opening
class_length h true m ms =
    omega (arith, members_onto true ms m [], length-append (spell_member (before_of (spot_of true ms)) true m) (93 ∷ []))
class_length h false m ms =
    omega (arith, members_onto false ms m [], length-append (spell_member (before_of (spot_of false ms)) true m) (93 ∷ []))

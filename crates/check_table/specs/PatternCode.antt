-- The states of the code's walk over a pattern, as the definitions have them.
use Rattle.std.specs.Prelude.{ℕ, suc, ◌+◌, ◌≤◌, eqb}
use Rattle.std.proofs.Math.Option.{Option, none, some}
use Rattle.macros.specs.Macro.{Closure, pick}
use Rattle.form_table.specs.PatternWalk as walks
use Rattle.form_table.specs.PatternWalk.{closure_length, closure_joint}
use Rattle.form_table.specs.PatternWalk.Joint.{loose, after_star, after_query, after_mark}
use Rattle.form_table.specs.PatternWalk.Inside.{at_bracket, at_tilde, at_single, at_dash, at_range}
use Rattle.form_table.specs.PatternWalk.PatternSpot.{behind_piece, in_class, in_range}
use Rattle.form_table.specs.PatternWalk.PatternState.{pattern_at}
use Rattle.check_table.specs.declared.pattern.Joint.{Joint}
use Rattle.check_table.specs.declared.pattern.Joint.TheVariants.{Loose, AfterStar, AfterQuery, AfterMark}
use Rattle.check_table.specs.declared.pattern.PatternSpot.{PatternSpot}
use Rattle.check_table.specs.declared.pattern.PatternSpot.TheVariants.{BehindPiece, InClass, InRange}
use Rattle.check_table.specs.declared.pattern.PatternState.{PatternState}
use Rattle.std.specs.Prelude.{Option as Found, Some, None}

unfoldable pub joint_of : Joint → walks.Joint
joint_of Loose = loose
joint_of AfterStar = after_star
joint_of AfterQuery = after_query
joint_of AfterMark = after_mark

unfoldable pub inside_of : ℕ → walks.Inside
inside_of w = pick (eqb w 0) at_bracket (pick (eqb w 1) at_tilde (pick (eqb w 2) at_single (pick (eqb w 3) at_dash at_range)))

unfoldable pub spot_of : PatternSpot → walks.PatternSpot
spot_of (BehindPiece j) = behind_piece (joint_of j)
spot_of (InClass j w) = in_class (joint_of j) (inside_of w)
spot_of (InRange j a) = in_range (joint_of j) a

unfoldable pub state_of : PatternState → walks.PatternState
state_of s = pattern_at s.spelled s.tags s.braces s.elements (spot_of s.spot)

unfoldable pub next_of : Found PatternState → Option walks.PatternState
next_of (Some s) = some (state_of s)
next_of None = none

-- closure_joint by the closure's code
unfoldable pub closed_joint : walks.Joint → ℕ → walks.Joint
closed_joint j k = pick (eqb k 0) j (pick (eqb k 1) after_star loose)

-- behind the first item of an element that has n bytes without its closure
unfoldable pub ended : (walks.Joint → walks.PatternSpot) → (n t d e : ℕ) → walks.Joint → Option Closure → Option walks.PatternState
ended at n t d e j none = none
ended at n t d e j (some k) = some (pattern_at (n + closure_length k) t d (suc e) (at (closure_joint j k)))

-- the numbers are far from the largest that the code can hold
abbrev pub Room : PatternState → Type 0
Room s = s.spelled + s.braces + s.elements ≤ 100000

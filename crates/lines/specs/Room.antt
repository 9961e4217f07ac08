-- The room of a line: at every moment of a pass the new line's size is known, and is at most 1,054 (01, bounds).
-- That of the answers is in FeedKeeps.
-- It rules out must-fail/room_1055 and must-fail/size_lost.
use Rattle.std.specs.Prelude.{◌≡◌, ℕ, ◌≤◌, List, length}
use Rattle.macros.specs.Bounds.{most_line_bytes}
use Rattle.macros.specs.Macro.{Macro}
use Rattle.lines.specs.State.{State}
use Rattle.lines.specs.Replacing.{Work, Done}
use Rattle.lines.specs.Replacing.Done.{bad, good}
use Rattle.lines.specs.Pass.{Walk, pass}
use Rattle.lines.specs.Pass.Walk.{ended, occurs}

-- a moment's size is the number of the new line's bytes, and they fit
pub record Room (w : Work) : Type 0 where
  pub exact : w.size ≡ length w.out
  pub fits : w.size ≤ most_line_bytes

-- a refused step has no moment
abbrev pub DoneRoom : Done → Type 0
DoneRoom (bad r w) = Unit {0}
DoneRoom (good w) = Room w

-- the moments before and after each occurrence, and the pass's end
abbrev pub WalkRoom : Walk → Type 0
WalkRoom (ended d) = DoneRoom d
WalkRoom (occurs o k) = Room o.before × Room o.after × WalkRoom k

-- THE LAW: of every macro, over every text, from every state
abbrev pub PassRoom : Type 0
PassRoom = (m : Macro) (t : List ℕ) (st : State) → WalkRoom (pass m t st)

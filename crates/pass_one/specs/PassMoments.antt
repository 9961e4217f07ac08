-- The moments of a pass are those of 01, part 5 (`lines: Pass`): its first one, and what trying a place makes of each.
-- What a moment says of the pass is `Onward`: which place is tried next, where the match just made ended, how many bytes the new line has,
-- whether there was an occurrence; and past the last place what the pass comes to.
use Rattle.std.specs.Prelude.{ℕ, ◌≤◌, ◌<◌, ◌≡◌, Bool, false, List, length, take, Result, None}
use Rattle.std.proofs.Math.Option.{none, some}
use Rattle.macros.specs.Bounds.{most_line_bytes}
use Rattle.macros.specs.Macro.{Macro}
use Rattle.lines.specs.State.{State}
use Rattle.lines.specs.Matching.{Division, end_of}
use Rattle.lines.specs.Replacing.{Work, start_in, occur}
use Rattle.lines.specs.Pass.{Walk, pass}
use Rattle.lines.specs.Line.{text_of}
use Rattle.refusals.specs.declared.WorkError.{WorkError}
use Rattle.pass_steps.specs.Moments.{IsMoment, done_of, size_of}
use Rattle.pass_moment.specs.declared.Moment.{Moment}
use Rattle.pass_moment.specs.Moments.{past_places, start_at, after_of, StepsOver}
use Rattle.pass_one.specs.Places.{from, match_at, Onward, MovesTo}

-- at the moment a, in which w holds, a place of the line is to be tried
pub record TriedAt (t b out : List ℕ) (a : Moment) (w : Work) : Type 0 where
  pub short : length t ≤ most_line_bytes
  pub place : a.place ≤ length t
  -- nothing was refused yet
  pub well : a.refusal ≡ None
  pub room : length out ≡ most_line_bytes
  pub held : IsMoment out b a.size w

-- the moment w of a pass from the state st: the bytes before p are copied
pub record CopiedTo (t : List ℕ) (st : State) (p : ℕ) (w : Work) : Type 0 where
  pub line : text_of w ≡ take p t
  pub size : w.size ≡ p
  pub state : w.state ≡ st

-- "tries places from 0": the law of `start`, at a place p before which there is no match
abbrev pub PassStarts : Type 0
PassStarts =
    (m : Macro) (t : List ℕ) (st : State) (p : ℕ) → p ≤ length t → length t ≤ most_line_bytes
    → ((i : ℕ) → i < p → match_at m t past_places i (start_in st) ≡ none)
    → (w : Work) × CopiedTo t st p w × Onward m t (pass m t st) false (start_at p) w

-- "At a place without a match the byte is copied.": the law of `step_over` there
abbrev pub PassCopies : Type 0
PassCopies =
    (m : Macro) (t b out out' : List ℕ) (a r : Moment) (w : Work) → TriedAt t b out a w
    → match_at m t a.last a.place w ≡ none
    → StepsOver t out out' a.place a r → MovesTo m t b out' a w r

-- "A match .. makes the replacement and goes on at its end; an empty match also copies the byte there .. and goes on after that byte":
-- the law of `after`, once the replacement is made in b' and out', and of `step_over`
abbrev pub PassReplaces : Type 0
PassReplaces =
    (m : Macro) (t b b' out out' out'' : List ℕ) (a r : Moment) (w v : Work) (d : Division) (o : Result ℕ WorkError) → TriedAt t b out a w
    → match_at m t a.last a.place w ≡ some d
    → occur m t d w ≡ done_of o v → IsMoment out' b' (size_of o) v → length out' ≡ most_line_bytes
    → StepsOver t out' out'' a.place (after_of o (end_of a.place d)) r → MovesTo m t b' out'' a w r

-- so from moment to moment: what x is from a on, it is from r on; past the last place `Onward` says what `answer` says
abbrev pub PassGoesOn : Type 0
PassGoesOn =
    (m : Macro) (t : List ℕ) (x : Walk) (had : Bool) (a r : Moment) (w v : Work) → Onward m t x had a w → a.place ≤ length t
    → Onward m t (from m t a.last a.place w) a.occurred r v → Onward m t x had r v

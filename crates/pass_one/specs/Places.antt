-- What trying a place, going on from it and walking over all of them promise (01, part 5).
use Rattle.std.specs.Prelude.{ℕ, ◌+◌, ◌*◌, ◌≤◌, ◌<◌, ◌≡◌, Bool, true, false, ◌||◌, List, length, get_or, drop, Option as CodeOption, Some, None, Result}
use Rattle.std.proofs.Math.Option.{Option, none}
use Rattle.kinds.specs.Kind.{kind_table}
use Rattle.macros.specs.Bounds.{most_line_bytes}
use Rattle.macros.specs.Macro.{Piece, Macro}
use Rattle.macros.specs.Formed.{Bytes}
use Rattle.form_table.specs.Form.{body_bytes}
use Rattle.lines.specs.State.{State}
use Rattle.lines.specs.Matching.{Division}
use Rattle.lines.specs.Choosing.{chosen}
use Rattle.lines.specs.Replacing.{Work}
use Rattle.lines.specs.Pass.{Walk, match, walk, pass, occurred, outcome}
use Rattle.refusals.specs.declared.WorkError.{WorkError}
use Rattle.pass_moment.specs.declared.Passed.{Passed}
use Rattle.pass_moment.specs.declared.Moment.{Moment}
use Rattle.pass_moment.specs.Moments.{past_places, passed_of, StepsOver}
use Rattle.form_state.specs.Access.{Holds, IsState}
use Rattle.pass_replace.specs.Contract.{IsSlot}
use Rattle.pass_steps.specs.Moments.{IsMoment}
use Rattle.pass_one.specs.Marks.{rows_bytes, Sound}
use Rattle.pass_one.specs.Contract.{done_of, SaysOccurred, Passes}
use Rattle.pass_unit.specs.Pattern.{IsPattern}
use Rattle.pass_one.specs.Finding.{last_of, Finds}
use Rattle.pass_one.specs.Seen.{Seen}

-- the pass from place p on
abbrev pub from : Macro → List ℕ → ℕ → ℕ → Work → Walk
from m t last p w = walk m t 0 (last_of last) p w (drop p t)

-- the match at place p
abbrev pub match_at : Macro → List ℕ → ℕ → ℕ → Work → Option Division
match_at m t last p w = match w.state m.pattern (last_of last) p (drop p t)

-- the bytes are the slot of some macro
abbrev pub SomeSlot : List ℕ → Type 0
SomeSlot s = (m : Macro) × IsSlot s m

-- the items of a slot's pattern
pub record ItemsOf (s items : List ℕ) : Type 0 where
  pub pattern : (m : Macro) → IsSlot s m → IsPattern items m.pattern
  pub fits : length items ≤ body_bytes

-- what the memories hold before the first place is tried
pub record ToTry (s items kinds t b out marks : List ℕ) : Type 0 where
  pub macro : (m : Macro) × IsSlot s m
  pub pattern : ItemsOf s items
  pub table : kinds ≡ kind_table
  pub bytes : Bytes t
  pub short : length t ≤ most_line_bytes
  pub state : IsState b
  pub room : length out ≡ most_line_bytes
  pub rows : length marks ≡ rows_bytes items
  pub zero : (i : ℕ) → get_or marks i 0 ≡ 0

-- GOING ON FROM A PLACE

-- what the memories hold at the moment a, before its place is tried
pub record AtPlace (s items kinds t b out marks ends : List ℕ) (a : Moment) : Type 0 where
  pub macro : (m : Macro) × IsSlot s m
  pub pattern : ItemsOf s items
  pub table : kinds ≡ kind_table
  pub bytes : Bytes t
  pub short : length t ≤ most_line_bytes
  pub place : a.place ≤ length t
  -- nothing was refused yet
  pub well : a.refusal ≡ None
  pub moment : (w : Work) × IsMoment out b a.size w
  pub room : length out ≡ most_line_bytes
  pub size : a.size ≤ most_line_bytes
  pub rows : length marks ≡ rows_bytes items
  pub sound : Sound items b t marks
  pub count : length ends ≡ body_bytes
  pub inside : (i : ℕ) → get_or ends i 0 ≤ length t

-- what the memories hold at the moment a, at whose place a match that ends at q was found
pub record Makes (s items t b out marks ends : List ℕ) (a : Moment) (q : ℕ) : Type 0 where
  pub at : AtPlace s items kind_table t b out marks ends a
  pub found : Finds items b t a.last a.place marks marks ends (Some q)

-- the pass x, before which there was an occurrence if `had`, is the pass from the moment a on,
-- in which w holds; past the last place a says what x comes to
pub record Onward (m : Macro) (t : List ℕ) (x : Walk) (had : Bool) (a : Moment) (w : Work) : Type 0 where
  pub on : a.place ≤ length t → (outcome x ≡ outcome (from m t a.last a.place w))
      × (had || occurred x ≡ a.occurred || occurred (from m t a.last a.place w))
  pub over : length t < a.place → (outcome x ≡ done_of (passed_of a) w) × SaysOccurred (passed_of a) (had || occurred x)

-- the pass that was at the moment a, in which w holds, goes on at the moment r, which the memories hold
abbrev pub MovesTo : Macro → (t b out : List ℕ) → Moment → Work → Moment → Type 0
MovesTo m t b out a w r = (v : Work) × IsMoment out b r.size v × Onward m t (from m t a.last a.place w) a.occurred r v

-- from the moment a, at whose place the macro is tried, the pass goes on at the moment r
pub record Goes (s items t b b' out out' marks marks' seen ends : List ℕ) (a r : Moment) : Type 0 where
  pub comes : (m : Macro) → IsSlot s m → (w : Work) → IsMoment out b a.size w → MovesTo m t b' out' a w r
  pub past : drop r.size out' ≡ drop r.size out
  pub size : r.size ≤ most_line_bytes
  pub grows : a.size ≤ r.size
  pub further : a.place < r.place
  -- after a refusal no place is left
  pub well : r.place ≤ length t → r.refusal ≡ None
  -- the marks and what is seen are those of the state now
  pub sound : Sound items b' t marks'
  pub sees : Seen items seen b'
  pub outside : drop (66 * length items) marks' ≡ drop (66 * length items) marks
  pub inside : (i : ℕ) → get_or ends i 0 ≤ length t

-- from the moment a the pass goes on at the moment r, once the byte at an empty match, or at a place without one, is copied
pub record GoesBy (s items t b b' out out' marks marks' seen ends : List ℕ) (a r : Moment) : Type 0 where
  pub copied : (z : Moment) (l : List ℕ) → StepsOver t out' l a.place r z → Goes s items t b b' out l marks marks' seen ends a z
  pub stays : a.occurred ≡ true → r.occurred ≡ true

-- FROM THE FIRST MATCH ON

-- no match begins before the place p
abbrev pub NoneBelow : (items b t : List ℕ) → ℕ → Type 0
NoneBelow items b t p =
    (es : List Piece) → IsPattern items es → (st : State) → Holds b st → (i : ℕ) → i < p → i ≤ length t → chosen st es i (drop i t) ≡ none

-- the first match begins at p and ends at q
pub record IsFirst (items b t marks ends : List ℕ) (p q : ℕ) : Type 0 where
  pub place : p ≤ length t
  pub none : NoneBelow items b t p
  pub found : Finds items b t past_places p marks marks ends (Some q)

-- the first match, or that there is none
abbrev pub FirstIn : (items b t marks ends : List ℕ) → CodeOption (ℕ × ℕ) → Type 0
FirstIn items b t marks ends (Some (p, q)) = IsFirst items b t marks ends p q
FirstIn items b t marks ends None = NoneBelow items b t (length t + 1)

-- what looking for the first match says; only the marks of the items change
pub record Searches (items b t marks marks' ends' : List ℕ) (r : CodeOption (ℕ × ℕ)) : Type 0 where
  pub first : FirstIn items b t marks' ends' r
  pub outside : drop (66 * length items) marks' ≡ drop (66 * length items) marks

-- what the memories hold where the first match, from p to q, was found
pub record Walking (s items kinds t b out marks ends : List ℕ) (p q : ℕ) : Type 0 where
  pub macro : (m : Macro) × IsSlot s m
  pub pattern : ItemsOf s items
  pub table : kinds ≡ kind_table
  pub bytes : Bytes t
  pub short : length t ≤ most_line_bytes
  pub state : IsState b
  pub room : length out ≡ most_line_bytes
  pub rows : length marks ≡ rows_bytes items
  pub count : length ends ≡ body_bytes
  pub first : IsFirst items b t marks ends p q

-- BEHIND THE FIRST MATCH

-- the memories where the first match, from `place` to `stop`, was found
pub record Origin : Type 0 where
  pub state : List ℕ
  pub out : List ℕ
  pub marks : List ℕ
  pub seen : List ℕ
  pub ends : List ℕ
  pub place : ℕ
  pub stop : ℕ

abbrev pub Came : (s items kinds t : List ℕ) → Origin → Type 0
Came s items kinds t h = Walking s items kinds t h.state h.out h.marks h.ends h.place h.stop

-- the moment that the memories hold, and what the pass from its start is from there on
pub record Reached (t b out : List ℕ) (a : Moment) (m : Macro) (st : State) : Type 0 where
  pub work : Work
  pub moment : IsMoment out b a.size work
  pub onward : Onward m t (pass m t st) false a work

-- what holds before each place that is tried, and past the last
pub record Going (s items t : List ℕ) (h : Origin) (b out marks seen ends : List ℕ) (a : Moment) : Type 0 where
  pub size : a.size ≤ most_line_bytes
  pub state_size : length b ≡ length h.state
  pub room : length out ≡ length h.out
  pub rows : length marks ≡ length h.marks
  pub seen_size : length seen ≡ length h.seen
  pub count : length ends ≡ body_bytes
  pub inside : (i : ℕ) → get_or ends i 0 ≤ length t
  pub sound : Sound items b t marks
  pub sees : Seen items seen b
  pub well : a.place ≤ length t → a.refusal ≡ None
  pub past : drop a.size out ≡ drop a.size h.out
  pub outside : drop (66 * length items) marks ≡ drop (66 * length items) h.marks
  pub reached : (m : Macro) → IsSlot s m → (st : State) → Holds h.state st → Reached t b out a m st

-- what the memories hold behind the first match
pub record Walks (s items kinds t b out marks seen ends : List ℕ) (a : Moment) : Type 0 where
  pub origin : Origin
  pub came : Came s items kinds t origin
  pub going : Going s items t origin b out marks seen ends a

-- the pass, from wherever it came
pub record WalksTo (s items kinds t b b' out out' marks seen ends : List ℕ) (a : Moment) (r : Result Passed WorkError) : Type 0 where
  pub comes : (h : Origin) → Came s items kinds t h → Going s items t h b out marks seen ends a → a.occurred ≡ true
      → Passes s t h.state b' h.out out' r

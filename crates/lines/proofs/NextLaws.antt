-- One step of a line's passes: its end, or a pass and the line behind it; and a line behind the passes so far.
use Prim.Native.Nat.{ℕ, zero, suc, ◌+◌}
use mathlib.Core.Path.{◌≡◌, refl, ap}
use mathlib.Core.Bool.{Bool, true, false, ◌||◌}
use mathlib.Core.List.{List, [], ◌∷◌, ◌++◌}
use Rattle.macros.specs.Refusals.{WorkRefusal}
use Rattle.macros.specs.Refusals.WorkRefusal.{budget_used_up}
use Rattle.macros.specs.Macro.{Table}
use Rattle.lines.specs.State.{State}
use Rattle.lines.specs.Replacing.{Work, start_in, before_acts}
use Rattle.lines.specs.Replacing.Done.{bad, good}
use Rattle.lines.specs.Pass.{pass, occurred, outcome}
use Rattle.lines.specs.Pass.{Walk.ended as walk_ended}
use Rattle.lines.specs.Line.{Numbered, Pass, Line, is_in, prepares, pass_behind, pass_of, is_control, newest_first, closed_by, due, follow, after_pass, text_of, passes, passes_of, had_occurrence, ending, passes_then}
use Rattle.lines.specs.Line.Line.{ended, passed}
use Rattle.lines.specs.Line.Ending.{refused, done, control}

-- THE NEXT STEP, from the text t and the state st on, with n left of the budget

module _ (ms : Table) (closed begun : List ℕ) (st : State) (t : List ℕ) where
  -- a control line
  pub to_control : (n : ℕ) (todo : List Numbered) → is_control t ≡ true → passes ms n closed begun todo st t ≡ ended (control t st)
  unfolding passes due
  to_control zero todo c = rw c refl
  to_control (suc n) todo c = rw c refl

  -- no macro is due
  pub to_done : (n : ℕ) → is_control t ≡ false → passes ms n closed begun [] st t ≡ ended (done t st)
  unfolding passes due
  to_done zero c = rw c refl
  to_done (suc n) c = rw c refl

  -- the macro e is due
  module _ (e : Numbered) (es : List Numbered) (c : is_control t ≡ false) where
    -- and the budget is used up
    pub to_used : passes ms zero closed begun (e ∷ es) st t ≡ ended (refused budget_used_up)
    unfolding passes due
    to_used = rw c refl

    -- its pass
    abbrev pub made : Pass
    made = pass_of begun e t st

    -- is refused
    pub to_refused : (n : ℕ) (r : WorkRefusal) (v : Work) → outcome made.events ≡ bad r v → passes ms (suc n) closed begun (e ∷ es) st t ≡ passed made (ended (refused r))
    unfolding passes due after_pass follow
    to_refused n r v x = rw (c, x) refl

    -- has no occurrence
    pub to_next : (n : ℕ) (v : Work) → outcome made.events ≡ good v → occurred made.events ≡ false → passes ms (suc n) closed begun (e ∷ es) st t ≡ passed made (passes ms n closed (e.number ∷ begun) es v.state t)
    unfolding passes due after_pass follow
    to_next n v x o = rw (c, x, o) refl

    -- has one
    pub to_again : (n : ℕ) (v : Work) → outcome made.events ≡ good v → occurred made.events ≡ true
        → passes ms (suc n) closed begun (e ∷ es) st t ≡ passed made (passes ms n (closed_by e closed) (e.number ∷ begun) (newest_first (closed_by e closed) ms) v.state (text_of v))
    unfolding passes due after_pass follow
    to_again n v x o = rw (c, x, o) refl

-- A PASS, with the calls before its pattern

module _ (begun : List ℕ) (e : Numbered) (t : List ℕ) (st : State) where
  -- its macro passed before: none of them runs
  pub pass_again : is_in e.number begun ≡ true
      → pass_of begun e t st ≡ record { which = e; text = t; state = st; tried = st; events = pass e.macro t st }
  unfolding pass_of prepares pass_behind
  pass_again h = rw h refl

  -- its macro's first pass: they run
  pub pass_first : (w : Work) → is_in e.number begun ≡ false → before_acts e.macro (start_in st) ≡ good w
      → pass_of begun e t st ≡ record { which = e; text = t; state = st; tried = w.state; events = pass e.macro t w.state }
  unfolding pass_of prepares pass_behind
  pass_first w h g = rw (h, g) refl

  -- and one of them is refused
  pub pass_stopped : (r : WorkRefusal) (w : Work) → is_in e.number begun ≡ false → before_acts e.macro (start_in st) ≡ bad r w
      → pass_of begun e t st ≡ record { which = e; text = t; state = st; tried = w.state; events = walk_ended (bad r w) }
  unfolding pass_of prepares pass_behind
  pass_stopped r w h g = rw (h, g) refl

-- BEHIND THE PASSES SO FAR

-- one pass more
pub then_one : (xs : List Pass) (x : Pass) (l : Line) → passes_then (xs ++ (x ∷ [])) l ≡ passes_then xs (passed x l)
unfolding passes_then
then_one [] x l = refl
then_one (y ∷ xs) x l = ap (passed y) (then_one xs x l)

-- the line ends as the one behind them does
pub then_ending : (xs : List Pass) (l : Line) → ending (passes_then xs l) ≡ ending l
unfolding passes_then ending
then_ending [] l = refl
then_ending (y ∷ xs) l = then_ending xs l

-- and has these passes and then its own
pub then_passes : (xs : List Pass) (l : Line) → passes_of (passes_then xs l) ≡ xs ++ passes_of l
unfolding passes_then passes_of
then_passes [] l = refl
then_passes (y ∷ xs) l = ap (λ (ys : List Pass). y ∷ ys) (then_passes xs l)

or_assoc : (a b c : Bool) → (a || (b || c)) ≡ ((a || b) || c)
or_assoc true b c = refl
or_assoc false b c = refl

-- an occurrence so far, or in the pass behind
pub occurrence_one : (xs : List Pass) (x : Pass) → had_occurrence (xs ++ (x ∷ [])) ≡ (had_occurrence xs || occurred x.events)
unfolding had_occurrence
occurrence_one [] x = or_none (occurred x.events)
  where
    or_none : (b : Bool) → (b || false) ≡ b
    or_none true = refl
    or_none false = refl
occurrence_one (y ∷ xs) x = rw (occurrence_one xs x) (or_assoc (occurred y.events) (had_occurrence xs) (occurred x.events))

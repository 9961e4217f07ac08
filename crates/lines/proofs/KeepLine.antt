-- A line's final text is within its bounds, its state in range, and its passes at most the budget.
use Prim.Native.Nat.{ℕ, zero, suc, ◌≤◌}
use mathlib.Core.Bool.{Bool, true, false}
use mathlib.Core.List.{List, [], ◌∷◌}
use native.Mathlib.Omega.{arith}
use lib.ListN.{length}
use Rattle.macros.specs.Bounds.{most_line_bytes}
use Rattle.macros.specs.Macro.{Table}
use Rattle.macros.specs.Formed.{Bytes, Formed}
use Rattle.macros.specs.Accepted.{Each, Spellable}
use Rattle.lines.specs.State.{State, AllOf, InRange}
use Rattle.lines.specs.Replacing.{Work, Done}
use Rattle.lines.specs.Replacing.Done.{bad, good}
use Rattle.lines.specs.Pass.{occurred, outcome}
use Rattle.lines.specs.Line.{Sent, Numbered, Pass, Ending, Line, is_in, unless_closed, open_from, newest_first, closed_by, is_control, due, pass_of, follow, after_pass, text_of, passes, line_of, passes_of, ending}
use Rattle.lines.specs.Line.Ending.{refused, done, control}
use Rattle.lines.proofs.KeepBytes.{all_reverse, bytes_onto, length_onto}
use Rattle.lines.proofs.KeepWork.{Sound, SoundDone}
use Rattle.lines.proofs.KeepPass.{made_sound}

-- a text of a line, and the state with it
pub record Good (t : List ℕ) (st : State) : Type 0 where
  pub bytes : Bytes t
  pub fits : length t ≤ most_line_bytes
  pub state : InRange st

abbrev pub GoodEnding : Ending → Type 0
GoodEnding (refused r) = Unit {0}
GoodEnding (done t st) = Good t st
GoodEnding (control t st) = Good t st

-- a line that ends well within n passes
pub record Within (n : ℕ) (l : Line) : Type 0 where
  pub ends : GoodEnding (ending l)
  pub count : length (passes_of l) ≤ n

-- OPEN MACROS are well formed

abbrev WellFormed : Numbered → Type 0
WellFormed e = Formed e.macro

unless_formed : (c : Bool) (e : Numbered) (es : List Numbered) → WellFormed e → AllOf WellFormed es → AllOf WellFormed (unless_closed c e es)
unfolding unless_closed
unless_formed true e es f g = g
unless_formed false e es f g = (f, g)

open_formed : (n : ℕ) (closed : List ℕ) (ms : Table) → Each Spellable ms → AllOf WellFormed (open_from n closed ms)
unfolding open_from
open_formed n closed [] f = tt
open_formed n closed (m ∷ ms) f = unless_formed (is_in n closed) _ _ f.0.0 (open_formed (suc n) closed ms f.1)

newest_formed : (closed : List ℕ) (ms : Table) → Each Spellable ms → AllOf WellFormed (newest_first closed ms)
unfolding newest_first
newest_formed closed ms f = all_reverse WellFormed (open_from 0 closed ms) (open_formed 0 closed ms f)

-- THE PASSES

text_good : (w : Work) → Sound w → Good (text_of w) w.state
unfolding text_of
text_good w h =
    record {
      bytes = bytes_onto w.out [] h.bytes tt;
      fits = omega (arith, length_onto w.out [], h.exact, h.fits);
      state = h.state;
    }

due_within : (n : ℕ) (c : Bool) (t : List ℕ) (st : State) (todo : List Numbered) (next : Numbered → List Numbered → Line) → Good t st → AllOf WellFormed todo
    → ((e : Numbered) (es : List Numbered) → WellFormed e → AllOf WellFormed es → Within n (next e es)) → Within n (due c t st todo next)
unfolding due ending passes_of
due_within n true t st todo next h f g = record { ends = h; count = omega arith }
due_within n false t st [] next h f g = record { ends = h; count = omega arith }
due_within n false t st (e ∷ es) next h f g = g e es f.0 f.1

follow_within : (n : ℕ) (d : Done) (o : Bool) (on again : Work → Line) → SoundDone d → ((w : Work) → Sound w → Within n (on w)) → ((w : Work) → Sound w → Within n (again w))
    → Within n (follow d o on again)
unfolding follow ending passes_of
follow_within n (bad r w) o on again h f g = record { ends = tt; count = omega arith }
follow_within n (good w) false on again h f g = f w h
follow_within n (good w) true on again h f g = g w h

after_within : (n : ℕ) (x : Pass) (on again : Work → Line) → Within n (follow (outcome x.events) (occurred x.events) on again) → Within (suc n) (after_pass x on again)
unfolding after_pass ending passes_of
after_within n x on again h = record { ends = h.ends; count = omega (arith, h.count) }

passes_within : (ms : Table) (n : ℕ) (closed begun : List ℕ) (todo : List Numbered) (st : State) (t : List ℕ) → Each Spellable ms → AllOf WellFormed todo → Good t st
    → Within n (passes ms n closed begun todo st t)
unfolding passes ending passes_of
passes_within ms zero closed begun todo st t f o h = due_within zero (is_control t) t st todo _ h o (λ e es g k. record { ends = tt; count = omega arith })
passes_within ms (suc n) closed begun todo st t f o h =
    due_within (suc n) (is_control t) t st todo _ h o
    (λ e es g k. after_within n _ _ _
    (follow_within n (outcome (pass_of begun e t st).events) (occurred (pass_of begun e t st).events) _ _ (made_sound begun e t st g h.bytes h.state)
    (λ w s. passes_within ms n closed (e.number ∷ begun) es w.state t f k (record { bytes = h.bytes; fits = h.fits; state = s.state }))
    (λ w s. passes_within ms n (closed_by e closed) (e.number ∷ begun) (newest_first (closed_by e closed) ms) w.state (text_of w) f (newest_formed (closed_by e closed) ms f) (text_good w s))))

pub line_within : (ms : Table) (st : State) (sent : Sent) → Each Spellable ms → Good sent.line st → Within sent.budget (line_of ms st sent)
unfolding line_of
line_within ms st sent f h = passes_within ms sent.budget [] [] (newest_first [] ms) st sent.line f (newest_formed [] ms f) h

-- 01, part 6: a line, with all its passes.
use Rattle.std.specs.Prelude.{ℕ, zero, suc, Bool, true, false, ◌||◌, List, [], ◌∷◌, reverse, eqb}
use Rattle.macros.specs.Refusals.{WorkRefusal}
use Rattle.macros.specs.Refusals.WorkRefusal.{budget_used_up}
use Rattle.macros.specs.Macro.{Symbol, Macro, Table}
use Rattle.macros.specs.Macro.Symbol.{equal, less}
use Rattle.lines.specs.State.{State}
use Rattle.lines.specs.Replacing.{Work, Done, start_in, onto, before_acts}
use Rattle.lines.specs.Replacing.Done.{bad, good}
use Rattle.lines.specs.Pass.{Walk, pass, occurred, outcome}
use Rattle.lines.specs.Pass.{Walk.ended as walk_ended}

-- A LINE THAT IS SENT: its bytes, and the budget of its passes
pub record Sent : Type 0 where
  pub line : List ℕ
  pub budget : ℕ

-- THE HISTORY OF A LINE

-- a macro with its place in the table, the oldest at 0
pub record Numbered : Type 0 where
  pub number : ℕ
  pub macro : Macro

-- a pass: its macro, the text and the state at its start, the state in which it tries place 0, and what happens in it
-- if a call before its pattern is refused (02, N2), it tries no place, and `tried` is the state then
pub record Pass : Type 0 where
  pub which : Numbered
  pub text : List ℕ
  pub state : State
  pub tried : State
  pub events : Walk

-- how a line ends: refused, done, or a control line; with its final text and the state then
pub data Ending : Type 0 where
  refused : WorkRefusal → Ending
  done : List ℕ → State → Ending
  control : List ℕ → State → Ending

-- the passes in turn, and then the end
pub data Line : Type 0 where
  ended : Ending → Line
  passed : Pass → Line → Line

-- WHICH MACROS ARE OPEN

-- the number is one of the list
unfoldable pub is_in : ℕ → List ℕ → Bool
is_in n [] = false
is_in n (k ∷ ks) = elim (eqb n k) [ true ↦ true | false ↦ is_in n ks ]

-- a closed macro is left out
unfoldable pub unless_closed : Bool → Numbered → List Numbered → List Numbered
unless_closed true e es = es
unless_closed false e es = e ∷ es

-- the open macros of a table whose first has the number n
unfoldable pub open_from : ℕ → List ℕ → Table → List Numbered
open_from n closed [] = []
open_from n closed (m ∷ ms) = unless_closed (is_in n closed) (record { number = n; macro = m }) (open_from (suc n) closed ms)

-- "Passes begin with the newest macro and go to older ones"
unfoldable pub newest_first : List ℕ → Table → List Numbered
newest_first closed ms = reverse (open_from 0 closed ms)

-- "A `<` macro that occurred is closed to this line; all others are open."
unfoldable pub closing : Symbol → ℕ → List ℕ → List ℕ
closing equal n closed = closed
closing less n closed = n ∷ closed

-- the closed ones after an occurrence of the macro e
unfoldable pub closed_by : Numbered → List ℕ → List ℕ
closed_by e closed = closing e.macro.symbol e.number closed

-- THE CALLS BEFORE A PATTERN (02, N2)

-- what a pass comes to before it tries place 0: "It runs when the macro's first pass on the line begins", and at no other; later: whether
-- the macro passed before
unfoldable pub prepares : (later : Bool) → Macro → State → Done
prepares true m st = good (start_in st)
prepares false m st = before_acts m (start_in st)

-- a pass over the text t that begins in the state st, behind the calls
unfoldable pub pass_behind : Numbered → List ℕ → State → Done → Pass
pass_behind e t st (bad r w) = record { which = e; text = t; state = st; tried = w.state; events = walk_ended (bad r w) }
pass_behind e t st (good w) = record { which = e; text = t; state = st; tried = w.state; events = pass e.macro t w.state }

-- a pass; begun: the numbers of the macros that passed before on this line
unfoldable pub pass_of : (begun : List ℕ) → Numbered → List ℕ → State → Pass
pass_of begun e t st = pass_behind e t st (prepares (is_in e.number begun) e.macro st)

-- THE PASSES

-- "a line beginning with `$` is a control line"
unfoldable pub is_control : List ℕ → Bool
is_control [] = false
is_control (b ∷ bs) = eqb b 36

-- "Before each pass and at the end, .. a control line: no more passes"; the line is done when no open macro is left to pass
unfoldable pub due : Bool → List ℕ → State → List Numbered → (Numbered → List Numbered → Line) → Line
due true t st todo next = ended (control t st)
due false t st [] next = ended (done t st)
due false t st (e ∷ es) next = next e es

-- after a pass: refused; on to the older macros; "after a pass with an occurrence, again with the newest"
unfoldable pub follow : Done → Bool → (Work → Line) → (Work → Line) → Line
follow (bad r w) o on again = ended (refused r)
follow (good w) false on again = on w
follow (good w) true on again = again w

-- a pass, and what follows it
unfoldable pub after_pass : Pass → (Work → Line) → (Work → Line) → Line
after_pass x on again = passed x (follow (outcome x.events) (occurred x.events) on again)

-- the text that a pass made
unfoldable pub text_of : Work → List ℕ
text_of w = onto w.out []

-- A pass without an occurrence leaves the text as it is, and the state too, but for what the calls before its pattern did, if they ran.
-- the passes from a text and a state on; todo: the open macros whose pass is due. "Each pass costs one of the budget."
-- 31: "another pass is due and the budget is used up"; the calls run "after the budget is looked at" (02, N2)
unfoldable pub passes : Table → ℕ → (closed begun : List ℕ) → List Numbered → State → List ℕ → Line
passes ms zero closed begun todo st t = due (is_control t) t st todo (λ e es. ended (refused budget_used_up))
passes ms (suc budget) closed begun todo st t =
    due (is_control t) t st todo
    (λ e es. after_pass (pass_of begun e t st)
    (λ w. passes ms budget closed (e.number ∷ begun) es w.state t)
    (λ w. passes ms budget (closed_by e closed) (e.number ∷ begun) (newest_first (closed_by e closed) ms) w.state (text_of w)))

-- a line from its start
unfoldable pub line_of : Table → State → Sent → Line
line_of ms st sent = passes ms sent.budget [] [] (newest_first [] ms) st sent.line

-- WHAT A LINE COMES TO

-- its passes
unfoldable pub passes_of : Line → List Pass
passes_of (ended e) = []
passes_of (passed x l) = x ∷ passes_of l

-- whether one of the passes had an occurrence
unfoldable pub had_occurrence : List Pass → Bool
had_occurrence [] = false
had_occurrence (x ∷ xs) = occurred x.events || had_occurrence xs

-- its end, behind all its passes
unfoldable pub ending : Line → Ending
ending (ended e) = e
ending (passed x l) = ending l

-- some passes, and behind them a line
unfoldable pub passes_then : List Pass → Line → Line
passes_then [] l = l
passes_then (x ∷ xs) l = passed x (passes_then xs l)

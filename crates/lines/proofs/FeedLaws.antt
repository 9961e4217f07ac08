-- A line that is fed is refused before any pass, or gets the answer that its history makes.
use mathlib.Core.Path.{◌≡◌, refl}
use mathlib.Core.Bool.{Bool, true, false}
use lib.Dec.{leb}
use lib.ListN.{length}
use Rattle.macros.specs.Bounds.{most_line_bytes, most_budget}
use Rattle.macros.specs.Refusals.Refusal.{of_host, of_line}
use Rattle.macros.specs.Refusals.HostRefusal.{budget_too_large}
use Rattle.macros.specs.Refusals.LineRefusal.{line_too_long, bad_byte}
use Rattle.macros.specs.Macro.{Table}
use Rattle.lines.specs.State.{State}
use Rattle.lines.specs.Line.{Sent}
use Rattle.lines.specs.Trace.{history_of}
use Rattle.lines.specs.Feeding.{Answer, refusal, answer, has_bad_byte, feed}

-- THE LAW: what holds of the refusals 4, 21 and 22, each with its test, and of the history's answer holds of the line's answer
pub feed_cases : (ms : Table) (st : State) (sent : Sent) (P : Answer → Type 0) → (leb sent.budget most_budget ≡ false → P (refusal ms st 0 (of_host budget_too_large)))
    → (leb sent.budget most_budget ≡ true → leb (length sent.line) most_line_bytes ≡ false → P (refusal ms st 0 (of_line line_too_long)))
    → (leb sent.budget most_budget ≡ true → leb (length sent.line) most_line_bytes ≡ true → has_bad_byte sent.line ≡ true → P (refusal ms st 0 (of_line bad_byte)))
    → (leb sent.budget most_budget ≡ true → leb (length sent.line) most_line_bytes ≡ true → has_bad_byte sent.line ≡ false → P (answer ms st (history_of ms st sent))) → P (feed ms st sent)
unfolding feed
feed_cases ms st sent P costly long unclean answers = budgets (leb sent.budget most_budget) refl
  where
    bytes : Bool → Answer
    bytes c = elim c [ true ↦ refusal ms st 0 (of_line bad_byte) | false ↦ answer ms st (history_of ms st sent) ]

    lengths : Bool → Answer
    lengths b = elim b [ false ↦ refusal ms st 0 (of_line line_too_long) | true ↦ bytes (has_bad_byte sent.line) ]

    in_bytes : leb sent.budget most_budget ≡ true → leb (length sent.line) most_line_bytes ≡ true → (c : Bool) → has_bad_byte sent.line ≡ c → P (bytes c)
    in_bytes e f true g = unclean e f g
    in_bytes e f false g = answers e f g

    in_length : leb sent.budget most_budget ≡ true → (b : Bool) → leb (length sent.line) most_line_bytes ≡ b → P (lengths b)
    in_length e false f = long e f
    in_length e true f = in_bytes e f (has_bad_byte sent.line) refl

    budgets : (a : Bool) → leb sent.budget most_budget ≡ a → P (elim a [ false ↦ refusal ms st 0 (of_host budget_too_large) | true ↦ lengths (leb (length sent.line) most_line_bytes) ])
    budgets false e = costly e
    budgets true e = in_length e (leb (length sent.line) most_line_bytes) refl

-- 02, N10: a larger budget gives the same answer, and the passes begun are the smallest budget that gives it.
-- In brackets stand the edits of must-fail/ that a law rules out.
use Rattle.std.specs.Prelude.{ℕ, ◌≤◌, ◌<◌, ◌≡◌, ◌↔◌, []}
use Rattle.macros.specs.Bounds.{most_budget, most_trace_bytes}
use Rattle.macros.specs.Refusals.WorkRefusal.{budget_used_up}
use Rattle.macros.specs.Macro.{Table}
use Rattle.lines.specs.State.{State}
use Rattle.lines.specs.Line.{Sent, Line}
use Rattle.lines.specs.Line.Ending.{refused}
use Rattle.lines.specs.Feeding.{Answer, number_of, feed}
use Rattle.lines.specs.Demand.{Fits, Passes, pass_count, end_of_line, FitsIf}

-- the line that is sent, with another budget and all else the same
abbrev pub with_budget : ℕ → Sent → Sent
with_budget n sent = record { line = sent.line; budget = n }

-- "an answer other than 4 and 31"
abbrev pub Settled : Answer → Type 0
Settled a = (number_of a.kind ≡ 4 → ⊥) × (number_of a.kind ≡ 31 → ⊥)

-- THE LAW: such an answer "is also the answer under every larger budget up to 1,000,000, with passes, output, table and state",
-- and with the trace (02, N1), "for refusals as much as for lines" [budget_as_passes, largest_budget_oldest_first]
abbrev pub LargerBudget : Type 0
LargerBudget =
    (ms : Table) (st : State) (sent : Sent) → Settled (feed ms st sent)
    → (n : ℕ) → sent.budget ≤ n → n ≤ most_budget → feed ms st (with_budget n sent) ≡ feed ms st sent

-- "for each such answer there is a smallest budget that gives it, namely the passes begun; every smaller one gives 31"
pub record Smallest (ms : Table) (st : State) (sent : Sent) (a : Answer) : Type 0 where
  -- [refused_pass_free, refused_passes_0]
  pub gives : feed ms st (with_budget a.passes sent) ≡ a
  -- [budget_off_by_one]
  pub smaller : (n : ℕ) → n < a.passes → number_of (feed ms st (with_budget n sent)).kind ≡ 31

-- THE LAW
abbrev pub SmallestBudget : Type 0
SmallestBudget = (ms : Table) (st : State) (sent : Sent) → Settled (feed ms st sent) → Smallest ms st sent (feed ms st sent)

-- the passes begun are as many as the budget, and a pass is still due: by Passes of Demand the text is no control line,
-- and some open macro has not passed since the line's last occurrence
pub record StillDue (ms : Table) (st : State) (sent : Sent) : Type 0 where
  pub fits : Fits sent
  pub history : Line
  pub passes : Passes ms [] [] [] sent.line st history
  pub begun : pass_count history ≡ sent.budget
  pub due : end_of_line history ≡ refused budget_used_up
  -- and the lines of its passes fit in the trace (02, N1)
  pub traces : FitsIf st.trace most_trace_bytes history

-- THE LAW: 31 comes exactly then [done_is_31, budget_one_short]
abbrev pub UsedUpExact : Type 0
UsedUpExact = (ms : Table) (st : State) (sent : Sent) → (number_of (feed ms st sent).kind ≡ 31) ↔ StillDue ms st sent

-- THE LAW: and with that many passes [refused_passes_0, passes_not_counted]
abbrev pub UsedUpPasses : Type 0
UsedUpPasses = (ms : Table) (st : State) (sent : Sent) → number_of (feed ms st sent).kind ≡ 31 → (feed ms st sent).passes ≡ sent.budget

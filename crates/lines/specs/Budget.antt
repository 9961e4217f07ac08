-- 01, "31 another pass is due and the budget is used up": the exact rule for 31, over the demand's own histories.
use Rattle.std.specs.Prelude.{suc, ◌≡◌, ◌↔◌}
use Rattle.macros.specs.Refusals.WorkRefusal.{budget_used_up}
use Rattle.macros.specs.Macro.{Table}
use Rattle.lines.specs.State.{State}
use Rattle.lines.specs.Line.{Sent, Line}
use Rattle.lines.specs.Line.Ending.{refused}
use Rattle.lines.specs.Demand.{History, pass_count, end_of_line}

-- the line with one more in its budget
abbrev pub one_more : Sent → Sent
one_more sent = record { line = sent.line; budget = suc sent.budget }

-- THE LAW: of every table, state and line that is sent [budget_off_by_one, budget_one_short, done_is_31]: its history ends with 31
-- exactly when, with one more in its budget, it has one pass more than its budget
abbrev pub BudgetExact : Type 0
BudgetExact =
    (ms : Table) (st : State) (sent : Sent) (l k : Line) → History ms st sent l → History ms st (one_more sent) k
    → (end_of_line l ≡ refused budget_used_up) ↔ (pass_count k ≡ suc sent.budget)

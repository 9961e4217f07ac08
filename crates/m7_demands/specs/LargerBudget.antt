-- 02, N10, FOR THE ENGINE: of calls of m7_feed that are lent the same table, state, line, output and trace and differ in the budget alone.
-- It rules out, among others, the edits smaller_budget_too (a smaller budget gives the same result), settled_31 (31 stays 31 under every
-- larger budget), one_pass_less (one pass less than those begun is enough), smaller_taken (a smaller budget gives 0), late_by_one (31 comes
-- with one pass more than the budget) and due_elsewhere (31 comes where another line has a pass due).
use Rattle.std.specs.Prelude.{ℕ, suc, ◌≤◌, ◌<◌, ◌≡◌, true, ◌↔◌}
use Rattle.macros.specs.Bounds.{most_budget}
use Rattle.macros.specs.Formed.{Octets}
use Rattle.macros.specs.Macro.{Table}
use Rattle.lines.specs.State.{State}
use Rattle.lines.specs.Line.{Sent}
use Rattle.lines.specs.LargerBudget.{with_budget, StillDue}
use Rattle.form_state.specs.Access.{Holds}
use Rattle.line_memory.specs.Memory.{Memories, IsTable}
use Rattle.line_answer.specs.declared.Answer.{Answer}
use Rattle.m7.specs.Feeding.{Feeds, sized_to_feed}
use Rattle.m7_demands.specs.OneFeed.{Returned, called_with, Same}

-- "an answer other than 4 and 31"
abbrev pub Settled : Answer → Type 0
Settled r = (r.number ≡ 4 → ⊥) × (r.number ≡ 31 → ⊥)

-- two calls with the same line and memories, the second with the budget n; w and v are what they return
pub record Twice (sent : Sent) (n : ℕ) (m : Memories) (w v : Returned) : Type 0 where
  pub table : Octets m.table
  pub state : Octets m.state
  pub first : Feeds (called_with sent m w)
  pub second : Feeds (called_with (with_budget n sent) m v)

-- such an answer "is also the answer under every larger budget up to 1,000,000": the whole answer, and every byte of the memories
abbrev pub LargerBudget : Type 0
LargerBudget =
    (sent : Sent) (n : ℕ) (m : Memories) (w v : Returned) → Twice sent n m w v
    → Settled w.answer → sent.budget ≤ n → n ≤ most_budget → Same w v

-- "a smallest budget that gives it, namely the passes begun"
abbrev pub PassesGive : Type 0
PassesGive =
    (sent : Sent) (n : ℕ) (m : Memories) (w v : Returned) → Twice sent n m w v
    → Settled w.answer → n ≡ w.answer.passes → Same w v

-- "every smaller one gives 31"
abbrev pub SmallerRefused : Type 0
SmallerRefused =
    (sent : Sent) (n : ℕ) (m : Memories) (w v : Returned) → Twice sent n m w v
    → Settled w.answer → n < w.answer.passes → v.answer.number ≡ 31

-- 31 comes with as many passes begun as the budget
abbrev pub UsedUpPasses : Type 0
UsedUpPasses =
    (sent : Sent) (m : Memories) (w : Returned) → Octets m.table → Octets m.state → Feeds (called_with sent m w)
    → w.answer.number ≡ 31 → w.answer.passes ≡ sent.budget

-- and exactly when a pass is still due to the line, of the table and the state that the memories hold
abbrev pub UsedUpExact : Type 0
UsedUpExact =
    (sent : Sent) (m : Memories) (w : Returned) (ms : Table) (st : State)
    → sized_to_feed m ≡ true → IsTable m.table ms → Holds m.state st → Feeds (called_with sent m w)
    → (w.answer.number ≡ 31) ↔ StillDue ms st sent

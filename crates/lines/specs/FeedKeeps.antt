-- WHAT FEEDING KEEPS: from an accepted table and a state in range every answer is within 01's bounds.
-- In brackets stand the edits of must-fail/ that a clause rules out.
use Rattle.std.specs.Prelude.{ℕ, ◌≤◌, ◌≡◌, ◌⊎◌, List, [], ◌∷◌, length}
use Rattle.std.proofs.Math.Option.{some}
use Rattle.macros.specs.Bounds.{most_line_bytes, most_trace_bytes}
use Rattle.macros.specs.Refusals.{Refusal}
use Rattle.macros.specs.Macro.{Table}
use Rattle.macros.specs.Formed.{Between, Bytes, Octets}
use Rattle.macros.specs.Accepted.{Accepted}
use Rattle.lines.specs.State.{State, InRange, AllOf, fresh}
use Rattle.lines.specs.Line.{Sent}
use Rattle.lines.specs.Feeding.{Answer, number_of, place_of, output_of, feed, feeds}
use Rattle.lines.specs.Feeding.Kind.{refused_with}

-- the numbers with a place: "(10 to 19, else 0)"
abbrev pub Placed : ℕ → Type 0
Placed n = Between 10 19 n

-- 0 for a line that is taken, and the refusals that a line can meet: the host's 4, the table writer's, the sender's, the table's at work;
-- not 10 or 11: a control line has at most 1,054 bytes, and none is 0; not 1, 2 or 3, which are about memories: here the table is accepted
-- and the state in range
abbrev pub Number : ℕ → Type 0
Number n = (n ≡ 0) ⊎ (n ≡ 4) ⊎ Between 12 19 n ⊎ Between 21 23 n ⊎ Between 31 36 n

-- the answer a to a line that was fed to the table ms and the state st
pub record Kept (ms : Table) (st : State) (sent : Sent) (a : Answer) : Type 0 where
  -- the table after the line is accepted [macro_97, macro_unspelled]
  pub table : Accepted a.table
  -- the state after it is in range [counter_falls_to_0]
  pub state : InRange a.state
  -- the line that goes out has at most 1,054 bytes [line_too_long, room_1055, size_lost]
  pub fits : length (output_of a.kind) ≤ most_line_bytes
  -- and none of them is 0
  pub bytes : Bytes (output_of a.kind)
  -- the trace that it writes has at most 65,536 bytes (02, N1) [trace_one_more]
  pub trace : (s : List ℕ) → a.trace_text ≡ some s → length s ≤ most_trace_bytes
  -- the passes are at most the budget [budget_off_by_one]
  pub passes : a.passes ≤ sent.budget
  -- a refused line leaves table and state as they were [refused_line_keeps_state]
  pub refused : (r : Refusal) → a.kind ≡ refused_with r → (a.table ≡ ms) × (a.state ≡ st)
  -- the number is one that a line can be answered with [number_too_high]
  pub number : Number (number_of a.kind)
  -- the place is 0 unless the number is 10 to 19 [place_too_far]
  pub place : Placed (number_of a.kind) ⊎ (place_of a.kind ≡ 0)

-- THE LAW: any bytes, with any budget, fed to an accepted table and a state in range
abbrev pub FeedKeeps : Type 0
FeedKeeps = (ms : Table) (st : State) (sent : Sent) → Accepted ms → InRange st → Octets sent.line → Kept ms st sent (feed ms st sent)

-- the fresh state is in range [pointer_starts_at_0, counter_starts_at_0]
abbrev pub FreshInRange : Type 0
FreshInRange = InRange fresh

-- an answer for each line, each kept from the table and state that the last returned or left
abbrev pub EachKept : Table → State → List Sent → List Answer → Type 0
EachKept ms st [] [] = Unit {0}
EachKept ms st [] (a ∷ answers) = ⊥
EachKept ms st (x ∷ xs) [] = ⊥
EachKept ms st (x ∷ xs) (a ∷ answers) = Kept ms st x a × EachKept a.table a.state xs answers

-- THE LAW OF A WHOLE LIST: lines of any bytes, from an accepted table and the fresh state
abbrev pub FeedsKeep : Type 0
FeedsKeep =
    (ms : Table) (xs : List Sent) → Accepted ms → AllOf (λ (x : Sent). Octets x.line) xs → EachKept ms fresh xs (feeds ms fresh xs)

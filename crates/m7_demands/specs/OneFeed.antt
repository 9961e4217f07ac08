-- THE CONTRACT OF m7_feed LEAVES NOTHING FREE.
-- It rules out, among others, the edits any_budget (the budget does not matter) and any_output (each call is lent the output that it
-- returns).
use Rattle.std.specs.Prelude.{◌≡◌}
use Rattle.macros.specs.Formed.{Octets}
use Rattle.lines.specs.Line.{Sent}
use Rattle.line_memory.specs.Memory.{Memories}
use Rattle.m7.specs.Feeding.{Call, Feeds}
use Rattle.line_answer.specs.declared.Answer.{Answer}

-- what a call returns: its answer, and what its memories hold then
pub record Returned : Type 0 where
  pub answer : Answer
  pub memories : Memories

-- the call that sends a line, is lent the memories m and returns w
abbrev pub called_with : Sent → Memories → Returned → Call
called_with sent m w = record { feeding = record { sent = sent; lent = m; left = w.memories }; answer = w.answer }

pub record Same (w v : Returned) : Type 0 where
  pub answers : w.answer ≡ v.answer
  pub memories : w.memories ≡ v.memories

-- Whatever is lent, the contract allows one answer and one content of each memory.
abbrev pub OneFeed : Type 0
OneFeed =
    (sent : Sent) (m : Memories) → Octets m.table → Octets m.state
    → (w v : Returned) → Feeds (called_with sent m w) → Feeds (called_with sent m v) → Same w v

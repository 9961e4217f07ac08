-- The moments of a pass (01, part 5), as the code has them.
-- That they are those of a pass of the definitions: `PassStarts`, `PassCopies`, `PassReplaces`, `PassGoesOn` (`pass_one: PassMoments`).
use Rattle.std.specs.Prelude.{ℕ, ◌+◌, ◌≤◌, ◌<◌, ◌≡◌, Bool, true, false, List, ◌++◌, length, get_or, take, drop, set, Result, Ok, Err, Option, Some, None}
use Rattle.macros.specs.Bounds.{most_line_bytes}
use Rattle.refusals.specs.declared.WorkFault.{WorkFault}
use Rattle.refusals.specs.declared.WorkFault.TheVariants.{NewLineTooLong}
use Rattle.refusals.specs.declared.WorkError.{WorkError}
use Rattle.pass_moment.specs.declared.Passed.{Passed}
use Rattle.pass_moment.specs.declared.Moment.{Moment}

-- past every place, "from 0 to the line's length": as the place, the pass is over; as the end of the last match, there was no match yet
abbrev pub past_places : ℕ
past_places = most_line_bytes + 1

-- part 5: place p, before which there is no match; the new line has the bytes before it
abbrev pub start_at : ℕ → Moment
start_at p = record { place = p; last = past_places; size = p; occurred = false; refusal = None }

-- "At a place without a match the byte is copied.": those before p, and nothing else changes
pub record Starts (t out out' : List ℕ) (p : ℕ) (r : Moment) : Type 0 where
  pub moment : r ≡ start_at p
  pub copied : out' ≡ take p t ++ drop p out

-- part 5: the next place, with n bytes of the new line
abbrev pub moved_to : Moment → ℕ → Moment
moved_to a n = record { place = a.place + 1; last = a.last; size = n; occurred = a.occurred; refusal = a.refusal }

-- "The table at work, at the first such step": no place is left, and the new line has k bytes; `occurred` is not read after a refusal
abbrev pub refused_at : WorkFault → ℕ → Moment
refused_at f k = record { place = past_places; last = past_places; size = k; occurred = true; refusal = Some f }

-- part 5: "A match .. makes the replacement and goes on at its end", which is q
abbrev pub after_of : Result ℕ WorkError → ℕ → Moment
after_of (Ok k) q = record { place = q; last = q; size = k; occurred = true; refusal = None }
after_of (Err e) q = refused_at e.fault e.size

-- part 6: what a pass says, "a pass with an occurrence" or without one, or its refusal
abbrev pub answer_of : Option WorkFault → Bool → ℕ → Result Passed WorkError
answer_of None had n = Ok (record { occurred = had; size = n })
answer_of (Some f) had n = Err (record { fault = f; size = n })

-- part 6: what a moment past the last place says
abbrev pub passed_of : Moment → Result Passed WorkError
passed_of a = answer_of a.refusal a.occurred a.size

-- part 5: "At a place without a match the byte is copied"; at the line's length there is none; 32: "the new line's 1,055th byte"
pub record Copies (t out out' : List ℕ) (a r : Moment) : Type 0 where
  pub none : length t ≤ a.place → (r ≡ moved_to a a.size) × (out' ≡ out)
  pub full : a.place < length t → most_line_bytes ≤ a.size → (r ≡ refused_at NewLineTooLong a.size) × (out' ≡ out)
  pub copied : a.place < length t → a.size < most_line_bytes
      → (r ≡ moved_to a (a.size + 1)) × (out' ≡ set out a.size (get_or t a.place 0))

-- part 5: behind the tried place p. "At a place without a match the byte is copied", and "an empty match also copies the byte there ..
-- and goes on after that byte": there the pass still stands at p. Behind a longer match, and after a refusal, nothing is copied
pub record StepsOver (t out out' : List ℕ) (p : ℕ) (a r : Moment) : Type 0 where
  pub further : p < a.place → (r ≡ a) × (out' ≡ out)
  pub still : a.place ≤ p → Copies t out out' a r

-- What a call answers, in numbers.
-- The contract of answer_of rules out, among others, the edits refused_passes_lost (a refused line has no passes), withheld_as_control
-- (a withheld line has the kind of a control line) and one_answer (every line is answered as taken and withheld).
use Rattle.std.specs.Prelude.{ℕ, ◌≤◌, [], Result}
use Rattle.macros.specs.Bounds.{most_file_bytes, most_line_bytes, most_budget}
use Rattle.lines.specs.Feeding.{number_of, place_of, kind_number}
use Rattle.line_answer.specs.Fed.{kind_of, passes_of, size_of}
use Rattle.line_answer.specs.declared.Fed.{Fed}
use Rattle.line_answer.specs.declared.LineError.{LineError}
use Rattle.line_answer.specs.declared.Answer.{Answer}

-- "It returns the number, the place (10 to 19, else 0) and the passes begun": an answer without passes and kind,
-- of a refusal, or with the number of macros read or of bytes written
unfoldable pub reply : (number place length : ℕ) → Answer
reply n p k = record { number = n; place = p; passes = 0; kind = 0; length = k }

-- the answer to a line
abbrev pub line_reply : (number place passes kind length : ℕ) → Answer
line_reply n p b k l = record { number = n; place = p; passes = b; kind = k; length = l }

-- the answer in numbers; number, place and kind are the same whatever the output holds
unfoldable pub told : Result Fed LineError → Answer
told r = line_reply (number_of (kind_of r [])) (place_of (kind_of r [])) (passes_of r) (kind_number (kind_of r [])) (size_of r)

-- the bounds by which place, passes and length fit into an answer's numbers of 32 bits
pub record Small (r : Result Fed LineError) : Type 0 where
  pub place : place_of (kind_of r []) ≤ most_file_bytes
  pub passes : passes_of r ≤ most_budget
  pub size : size_of r ≤ most_line_bytes

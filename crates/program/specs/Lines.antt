-- THE LINES OF A RUN (01, part 8), up to the calls of read and write: each is read, fed with what the one before left, and answered, in order.
-- It rules out, among others, lines that are counted from 0 (run_files would show it), the edit other_budget (1,000 passes) and the edit
-- first_line_only (lines behind the first are left out: `ended` of LinesDone).
use Rattle.std.specs.Prelude.{ℕ, ◌+◌, ◌<◌, ◌≡◌, true, false, List, length, take, replicate}
use Rattle.program_in.specs.declared.Reading.{Reading}
use Rattle.program_in.specs.Reading.{LineRead}
use Rattle.program_out.specs.Writing.{puts, Gives}
use Rattle.lines.specs.State.{fresh}
use Rattle.form_state.specs.Form.{state_form}
use Rattle.line_answer.specs.declared.Answer.{Answer}
use Rattle.m7.specs.Feeding.{Feeds}
use Rattle.program.specs.Said.{Said}

-- what the program holds between two lines: its memories, the reading, and how many bytes of `out` are not yet written
pub record Standing : Type 0 where
  pub table : List ℕ
  pub state : List ℕ
  pub block : List ℕ
  pub line : List ℕ
  pub out : List ℕ
  pub reading : Reading
  pub used : ℕ

-- what is said to an answer was put behind what is held
pub record Put (answer : Answer) (text : List ℕ) (number : ℕ) (out : List ℕ) (used : ℕ) (out' : List ℕ) (used' : ℕ) : Type 0 where
  pub said : List ℕ
  pub says : Said answer text number said
  pub put : Gives (puts out used said) out' used'

-- the line was fed with "budget 10,000", and its answer is said
pub record Answered (line : List ℕ) (number : ℕ) (table state out : List ℕ) (used : ℕ) (table' state' out' : List ℕ) (used' : ℕ) : Type 0 where
  pub output : List ℕ
  pub output' : List ℕ
  pub trace : List ℕ
  pub trace' : List ℕ
  pub answer : Answer
  pub sized : length output ≡ 1054
  pub trace_sized : length trace ≡ 65536
  pub fed : Feeds (record { feeding = record { sent = record { line = line; budget = 10000 }; lent = record { table = table; state = state; output = output; trace = trace }; left = record { table = table'; state = state'; output = output'; trace = trace' } }; answer = answer })
  pub said : Put answer output' number out used out' used'

-- a line was read and answered
pub record LineDone (a : Standing) (number : ℕ) (b : Standing) : Type 0 where
  pub heard : LineRead a.reading a.block a.line b.reading b.block b.line
  pub begun : b.reading.begun ≡ true
  pub answered : Answered (take b.reading.held b.line) number a.table a.state a.out a.used b.table b.state b.out b.used

-- lines one after the other, "line (from 1)": the next one's number, and what is held then
pub data Session (a : Standing) : ℕ → Standing → Type 0 where
  none : (n : ℕ) (b : Standing) → n ≡ 1 → b ≡ a → Session a n b
  next : (n m : ℕ) (b c : Standing) → Session a n b → LineDone b n c → m ≡ n + 1 → Session a m c

-- before the first line
unfoldable pub starting : (table state block line out : List ℕ) → Standing
starting table state block line out =
    record { table = table; state = state; block = block; line = line; out = out; reading = record { at = 0; size = 0; held = 0; begun = false }; used = 0 }

-- all lines to the end of the input: behind the last one no line was found
pub record LinesDone (table state block line out table' state' block' line' out' : List ℕ) : Type 0 where
  pub number : ℕ
  pub last : Standing
  pub session : Session (starting table state block line out) number last
  pub reading : Reading
  pub heard : LineRead last.reading last.block last.line reading block' line'
  pub ended : number < 18446744073709551615 → reading.begun ≡ false
  -- table, state and output are as the last line left them
  pub same_table : table' ≡ last.table
  pub same_state : state' ≡ last.state
  pub same_out : out' ≡ last.out

-- "state fresh"; the other memories are zeros at first
pub record FreshLines (table table' : List ℕ) : Type 0 where
  pub state' : List ℕ
  pub block' : List ℕ
  pub line' : List ℕ
  pub out' : List ℕ
  pub lines : LinesDone table (state_form fresh) (replicate 65536 0) (replicate 1055 0) (replicate 65536 0) table' state' block' line' out'

-- THE CONTRACTS OF m7_read, m7_write AND m7_fresh: from the lent bytes at entry, the whole answer and what the written memory then holds.
use Rattle.std.specs.Prelude.{ℕ, ◌-◌, ◌≡◌, Bool, true, false, ◌&&◌, List, ◌++◌, eqb, length, replicate}
use Rattle.macros.specs.Bounds.{most_file_bytes}
use Rattle.macros.specs.Refusals.{Refusal, number, place}
use Rattle.macros.specs.Refusals.Refusal.{of_host, of_file}
use Rattle.macros.specs.Refusals.HostRefusal.{bad_memory, bad_table}
use Rattle.macros.specs.Macro.{Table, pick}
use Rattle.macros.specs.Read.{Read, read_file}
use Rattle.macros.specs.ReadFile.Read.{refused_at, table}
use Rattle.macros.specs.Write.{Written, write_out}
use Rattle.macros.specs.Write.Written.{refused, file}
use Rattle.form_table.specs.Form.{table_bytes, form}
use Rattle.lines.specs.State.{fresh}
use Rattle.form_state.specs.Form.{state_bytes, state_form}
use Rattle.line_memory.specs.Memory.{IsTable}
use Rattle.line_answer.specs.declared.Answer.{Answer}
use Rattle.line_answer.specs.Replies.{reply}

-- what a call answers, and what the memory that it may write holds then
pub record Result : Type 0 where
  pub answer : Answer
  pub memory : List ℕ

-- a refusal has the number and place of 01 and length 0, and leaves the memory as it was
unfoldable pub refuses : Refusal → List ℕ → Result
refuses r old = record { answer = reply (number r) (place r) 0; memory = old }

-- a call that is taken has number 0, and a length
unfoldable pub takes : ℕ → List ℕ → Result
takes n b = record { answer = reply 0 0 n; memory = b }

-- the answer r, and the bytes b that the memory holds at exit, are that result
pub record Gives (w : Result) (r : Answer) (b : List ℕ) : Type 0 where
  pub answers : r ≡ w.answer
  pub holds : b ≡ w.memory

-- READING

-- the length is the number of macros, and the memory holds the table's form
unfoldable pub of_reading : List ℕ → Read → Result
of_reading old (refused_at r p) = refuses (of_file r p) old
of_reading old (table ms) = takes (length ms) (form ms)

-- m7_read, of a file and the table's memory: 3, else what reading the file as a new table gives
unfoldable pub reads : (file old : List ℕ) → Result
reads s old = pick (eqb (length old) table_bytes) (of_reading old (read_file s)) (refuses (of_host bad_memory) old)

-- WRITING OUT

-- the length is the file's, and the memory holds the file and zeros
unfoldable pub of_writing : List ℕ → Written → Result
of_writing old (refused r p) = refuses (of_file r p) old
of_writing old (file s) = takes (length s) (s ++ replicate (most_file_bytes - length s) 0)

-- the memories of the table and of the file have the sizes that the docs state
unfoldable pub sized : (t old : List ℕ) → Bool
sized t old = eqb (length t) table_bytes && eqb (length old) most_file_bytes

-- m7_write, of the table's bytes t and the file's memory: the answer r, and the bytes b that the file's memory holds at exit
pub record Writes (t old : List ℕ) (r : Answer) (b : List ℕ) : Type 0 where
  -- 3, a lent memory of another size
  pub other_size : sized t old ≡ false → Gives (refuses (of_host bad_memory) old) r b
  -- 1, bytes that are the form of no accepted table
  pub no_table : sized t old ≡ true → ((ms : Table) → IsTable t ms → ⊥) → Gives (refuses (of_host bad_table) old) r b
  -- else what writing out the table gives
  pub written : sized t old ≡ true → (ms : Table) → IsTable t ms → Gives (of_writing old (write_out ms)) r b

-- THE FRESH STATE

-- m7_fresh, of the state's memory: 3, else the fresh state, with length 0
unfoldable pub freshens : List ℕ → Result
freshens old = pick (eqb (length old) state_bytes) (takes 0 (state_form fresh)) (refuses (of_host bad_memory) old)

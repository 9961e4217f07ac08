-- WHAT BECOMES OF THE MACRO FILE, up to the calls of open and read.
use Rattle.std.specs.Prelude.{ℕ, zero, suc, ◌≤◌, ◌≡◌, List, length, Result, Ok, Err}
use Rattle.line_answer.specs.declared.Answer.{Answer}
use Rattle.m7.specs.Contract.{Gives, reads}
use Rattle.program.specs.declared.parts.PartsError.{PartsError}
use Rattle.program.specs.declared.parts.PartsError.TheVariants.{Unread, Refused}

-- m7_read was handed some list of at most 32,769 bytes, one more than a file may have, and answered this number; no contract says which bytes the system gives
pub record FileRead (old : List ℕ) (number : ℕ) (new : List ℕ) : Type 0 where
  pub file : List ℕ
  pub most : length file ≤ 32769
  pub answer : Answer
  pub read : Gives (reads file old) answer new
  pub same : number ≡ answer.number

-- what becomes of the file: a table, or why there is none
abbrev pub Parts : Type 0
Parts = Result (Unit {0}) PartsError

-- what the program makes of the number that m7_read answers
unfoldable pub parts_of : ℕ → Parts
parts_of zero = Ok tt
parts_of (suc n) = Err (Refused (suc n))

-- 0 is the number of a file that cannot be opened or read
unfoldable pub said_number : PartsError → ℕ
said_number Unread = 0
said_number (Refused n) = n

-- a file that cannot be opened or read leaves the memory; else m7_read refused it, with a number that is not 0
unfoldable pub Refuses : (old : List ℕ) → PartsError → (new : List ℕ) → Type 0
Refuses old Unread new = new ≡ old
Refuses old (Refused zero) new = ⊥
Refuses old (Refused (suc n)) new = FileRead old (suc n) new

-- by what the program makes of it, from the table's memory at entry to that at exit
unfoldable pub PartsRead : (old : List ℕ) → Parts → (new : List ℕ) → Type 0
PartsRead old (Ok u) new = FileRead old 0 new
PartsRead old (Err e) new = Refuses old e new

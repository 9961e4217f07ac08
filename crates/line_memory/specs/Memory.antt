-- The memories of a line, and what they hold: a table, and a text with zeros behind it.
use Rattle.std.specs.Prelude.{ℕ, ◌-◌, ◌≡◌, Bool, true, false, List, ◌++◌, length, replicate}
use Rattle.macros.specs.Macro.{Table}
use Rattle.macros.specs.Accepted.{Accepted}
use Rattle.form_table.specs.Form.{form}
use Rattle.lines.specs.Line.{Sent}

-- the memories of a line's answer: the table's, the state's, the output's and, last, the trace's (02, N1)
pub record Memories : Type 0 where
  pub table : List ℕ
  pub state : List ℕ
  pub output : List ℕ
  pub trace : List ℕ

-- A LINE THAT IS FED: what is sent, and the memories as they are lent and as they are left
pub record Feeding : Type 0 where
  pub sent : Sent
  pub lent : Memories
  pub left : Memories

-- the bytes are the form of the accepted table ms; no other table has that form, by the law OneForm of crates/form_table
pub record IsTable (table : List ℕ) (ms : Table) : Type 0 where
  pub accepted : Accepted ms
  pub form : form ms ≡ table

-- the form of an accepted table of so many macros
pub record Counted (table : List ℕ) (count : ℕ) : Type 0 where
  pub macros : Table
  pub is_table : IsTable table macros
  pub counted : length macros ≡ count

-- a text and zeros behind it: n bytes in all, for a text of at most n
abbrev pub padded : List ℕ → ℕ → List ℕ
padded t n = t ++ replicate (n - length t) 0

-- what a memory holds when a text is laid out in it, or none is
abbrev pub laid_if : (asked : Bool) → (text old : List ℕ) → List ℕ
laid_if true text old = padded text (length old)
laid_if false text old = old

-- What the program knows of the table and the state that it holds, so that no line checks them again.
use Rattle.std.specs.Prelude.{ℕ, List, Ok, Err}
use Rattle.form_state.specs.Access.{IsState}
use Rattle.line_feed.specs.Taking.{SomeTable}
use Rattle.program.specs.Parts.{Parts}

-- the form of an accepted table, and of a state in range
pub record Sound (table state : List ℕ) : Type 0 where
  pub macros : SomeTable table
  pub in_range : IsState state

-- a file that is read leaves the form of an accepted table
unfoldable pub Ready : Parts → (table : List ℕ) → Type 0
Ready (Ok u) table = SomeTable table
Ready (Err e) table = Unit {0}

-- The text that a tag or a stack call stands for (01, part 4: "handed out as a part of the line or of the stack memory").
use Rattle.std.specs.Prelude.{ℕ, ◌≤◌, ◌≡◌, List, length}
use Rattle.std.proofs.Math.Seq.{slice}
use Rattle.macros.specs.Formed.{Bytes, Letter}
use Rattle.lines.specs.State.{current_entry}
use Rattle.form_state.specs.Access.{IsState, OfState}
use Rattle.pass_steps.specs.declared.Text.{Text}
use Rattle.pass_steps.specs.declared.Text.TheVariants.{Tag, Entry}

-- a part of the line
pub record Cut (line : List ℕ) (from to : ℕ) : Type 0 where
  pub ordered : from ≤ to
  pub inside : to ≤ length line
  pub bytes : Bytes line

-- what is lent: for a tag the line, with the tag's span in it; for an entry a state
abbrev pub Lends : (line b : List ℕ) → Text → Type 0
Lends line b (Tag span) = Cut line span.from span.to
Lends line b (Entry i) = IsState b × Letter i

-- the text r is the span of the line, or the current entry of the stack i in the state
abbrev pub Hands : (line b : List ℕ) → Text → List ℕ → Type 0
Hands line b (Tag span) r = r ≡ slice span.from span.to line
Hands line b (Entry i) r = OfState b (λ st. r ≡ current_entry st i)

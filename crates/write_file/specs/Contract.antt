-- THE CONTRACT OF WRITING OUT.
use Rattle.std.specs.Prelude.{Ok, Err, ℕ, ◌-◌, ◌≡◌, List, [], ◌∷◌, ◌++◌, length, replicate}
use Rattle.macros.specs.Bounds.{most_file_bytes}
use Rattle.macros.specs.Macro.{Macro, Table}
use Rattle.macros.specs.Refusals.{FileRefusal}
use Rattle.macros.specs.Write.{Written, write_out}
use Rattle.macros.specs.Write.Written.{refused, file}
use Rattle.macros.specs.Accepted.{Spellable}
use Rattle.form_table.specs.Form.{slot}
use Rattle.write_file.specs.Slots.{Outcome, refusal_of, Holds}

-- an outcome in 01's terms: the file's length, or a refusal with its place
pub data Reply : Type 0 where
  size : ℕ → Reply
  refusal : FileRefusal → ℕ → Reply

unfoldable pub meaning : Outcome → Reply
meaning (Ok n) = size n
meaning (Err e) = refusal (refusal_of e.fault) e.place

unfoldable pub reply : Written → Reply
reply (file s) = size (length s)
reply (refused r p) = refusal r p

-- what the lent bytes hold: the file and zeros, or what they held before
unfoldable pub laid_out : Written → List ℕ → List ℕ
laid_out (file s) old = s ++ replicate (most_file_bytes - length s) 0
laid_out (refused r p) old = old

-- some accepted table has this form
abbrev pub SomeTable : List ℕ → Type 0
SomeTable t = (ms : Table) × Holds t ms

pub record WritesOut (t old new : List ℕ) (r : Outcome) : Type 0 where
  pub answers : (ms : Table) → Holds t ms → meaning r ≡ reply (write_out ms)
  pub holds : (ms : Table) → Holds t ms → new ≡ laid_out (write_out ms) old

-- ONE MACRO MORE

-- a slot that some file spells
abbrev pub SomeMacro : List ℕ → Type 0
SomeMacro t = (m : Macro) × Spellable m × (slot m ≡ t)

-- some table is written out so
abbrev pub SoFar : Outcome → Type 0
SoFar a = (ms : Table) × (meaning a ≡ reply (write_out ms))

-- what writing out comes to with one macro more: for every table that is written out so, with the macro of the slot t behind its own
abbrev pub WritesOn : (so : Outcome) → (t : List ℕ) → Outcome → Type 0
WritesOn a t r = (ms : Table) (m : Macro) → Spellable m → slot m ≡ t → meaning a ≡ reply (write_out ms)
    → meaning r ≡ reply (write_out (ms ++ (m ∷ [])))

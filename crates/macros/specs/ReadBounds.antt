-- What a smaller bound of a call's text changes (02, N6): a byte behind a text as long as the bound is 16, and nothing else changes.
-- These laws would hold of a bound that nobody looks at: the case old_texts of ReadingCases rules that out, with the edit bound_ignored (a
-- text may have 100 bytes, whatever the bound is). StepsAlike rules out the edit full_101 (16 comes behind 101 bytes only).
use Rattle.std.specs.Prelude.{ℕ, ◌≤◌, ◌≡◌, ◌⊎◌, Bool, List, length}
use Rattle.macros.specs.Refusals.FileRefusal.{bad_call}
use Rattle.macros.specs.Macro.{Move, Table}
use Rattle.macros.specs.ReadSoFar.{CallSite}
use Rattle.macros.specs.ReadSoFar.Part.{call_text}
use Rattle.macros.specs.Read.{Prior, Reader, step_by, read_onto_by}
use Rattle.macros.specs.ReadFile.Reader.{inside}
use Rattle.macros.specs.ReadFile.Next.{refuse}
use Rattle.macros.specs.ReadFile.Read.{refused_at}

-- the reader r is in a call's text that has n bytes or more
pub record AtBound (n : ℕ) (r : Reader) : Type 0 where
  pub skip : Bool
  pub counted : ℕ
  pub site : CallSite
  pub letter : ℕ
  pub move : Move
  pub text : List ℕ
  pub prior : Prior
  pub reading : r ≡ inside skip counted (call_text site letter move text) prior
  pub full : n ≤ length text

-- THE LAW, of one byte: with texts of at most n bytes it does what it does with texts of at most m, or it stands behind n bytes of a text
-- and is 16
abbrev pub StepsAlike : Type 0
StepsAlike =
    (n m : ℕ) → n ≤ m → (r : Reader) (b : ℕ) → (step_by n r b ≡ step_by m r b) ⊎ (AtBound n r × (step_by n r b ≡ refuse bad_call))

-- THE LAW: of every table and file
abbrev pub SmallerBound : Type 0
SmallerBound =
    (n m : ℕ) → n ≤ m → (older : Table) (s : List ℕ)
    → (read_onto_by n older s ≡ read_onto_by m older s) ⊎ ((p : ℕ) × (read_onto_by n older s ≡ refused_at bad_call p))

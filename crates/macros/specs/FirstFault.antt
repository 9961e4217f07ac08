-- What is promised of where reading refuses (01, "Then the first byte where a fault shows"): what stands behind does not matter, but for
-- the `(` by which a call begins a macro (02, N2).
-- FaultByItsBytes is false with the edits fault_first_p (the first p bytes suffice), fault_any_number (10 and 11 too)
-- and fault_ahead (a place that counts bytes behind).
use Rattle.std.specs.Prelude.{ℕ, suc, ◌+◌, ◌≤◌, ◌≡◌, ◌⊎◌, List, [], ◌∷◌, ◌++◌, length, take}
use Rattle.macros.specs.Bounds.{most_file_bytes, most_macro_bytes}
use Rattle.macros.specs.Refusals.{FileRefusal, file_number}
use Rattle.macros.specs.Refusals.FileRefusal.{macro_too_long, too_many_macros}
use Rattle.macros.specs.Macro.{Mark, Table}
use Rattle.macros.specs.Begins.{Skipped, call_sign}
use Rattle.macros.specs.Read.{read_onto}
use Rattle.macros.specs.ReadFile.Read.{refused_at}

-- no byte is 0
abbrev pub NoZero : List ℕ → Type 0
NoZero [] = Unit {0}
NoZero (b ∷ s) = (1 ≤ b) × NoZero s

-- a file that neither 10 nor 11 refuses
abbrev pub Plain : List ℕ → Type 0
Plain s = (length s ≤ most_file_bytes) × NoZero s

-- the refusal k at place p of the file s rests on its first n bytes
pub data RestsOn (s : List ℕ) (k : FileRefusal) (p : ℕ) : ℕ → Type 0 where
  -- those up to that place
  up_to_place : RestsOn s k p (suc p)
  -- of a macro that begins with a call, those up to the `(`: 19 is at the `&` or `#`, 18 at the 513th byte from there
  up_to_call : (before rest : List ℕ) (m : Mark) (u : List ℕ) → Skipped u → s ≡ before ++ (call_sign m u ++ rest)
      → ((k ≡ too_many_macros) × (p ≡ length before)) ⊎ ((k ≡ macro_too_long) × (p ≡ length before + most_macro_bytes))
      → RestsOn s k p (length before + length (call_sign m u))

-- A refusal 12 to 19 rests on the first n bytes, for some such n: it is the answer for every plain file that has the same first n bytes
-- (or ends where this one does).
abbrev pub FaultByItsBytes : Type 0
FaultByItsBytes = (older : Table) (s : List ℕ) (k : FileRefusal) (p : ℕ)
    → 12 ≤ file_number k → read_onto older s ≡ refused_at k p
    → (n : ℕ) × RestsOn s k p n × ((t : List ℕ) → Plain t → take n s ≡ take n t → read_onto older t ≡ refused_at k p)

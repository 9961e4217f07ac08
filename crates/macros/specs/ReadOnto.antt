-- What is promised of reading onto a table (01, 19: "the 97th macro's first quote, those of the table counted
-- with those that `$MACRO` reads"; 02, N2: the first call's `&` or `#`, where it has one).
-- OntoIsAppending rules out the edits older_lost (the older macros are lost) and calls_19 (19 at the `(` of a first call), and is false
-- with sum_alone (the file's macros alone are counted) and sum_97 (19 a macro late).
use Rattle.std.specs.Prelude.{ℕ, ◌+◌, ◌≤◌, ◌≡◌, List, [], ◌∷◌, ◌++◌, length}
use Rattle.macros.specs.Bounds.{most_macros}
use Rattle.macros.specs.Refusals.{FileRefusal}
use Rattle.macros.specs.Refusals.FileRefusal.{too_many_macros}
use Rattle.macros.specs.Macro.{Table}
use Rattle.macros.specs.Read.{read_file, read_onto}
use Rattle.macros.specs.ReadFile.Read.{refused_at, table}
use Rattle.macros.specs.Begins.{Opening}
use Rattle.macros.specs.FirstFault.{Plain}

-- the macro number j + 1 of a file, counted from 1, begins at place p: the bytes before are a file of j macros, and a quote follows, or the
-- `&(` or `#(` of a call before a pattern (02, N2)
pub record Begins (s : List ℕ) (j p : ℕ) : Type 0 where
  pub before : List ℕ
  pub opening : List ℕ
  pub rest : List ℕ
  pub macros : Table
  pub stands : s ≡ before ++ (opening ++ rest)
  pub opens : Opening opening
  pub place : p ≡ length before
  pub read : read_file before ≡ table macros
  pub count : length macros ≡ j

-- what reading a file onto a table of at most 96 macros comes to, by what the file alone is
pub record AddsWell (older : Table) (s : List ℕ) : Type 0 where
  -- a file of macros that fit: they stand behind the table's own
  pub added : (new : Table) → read_file s ≡ table new → length older + length new ≤ most_macros → read_onto older s ≡ table (older ++ new)
  -- 19 by the sum: where the 97th macro of all begins, in a file that neither 10 nor 11 refuses
  pub full : (j p : ℕ) → Plain s → Begins s j p → length older + j ≡ most_macros → read_onto older s ≡ refused_at too_many_macros p
  -- any other fault of the file, if no 97th macro begins
  pub faulty : (k : FileRefusal) (p : ℕ) → read_file s ≡ refused_at k p → ((j q : ℕ) → Begins s j q → length older + j ≡ most_macros → ⊥)
      → read_onto older s ≡ refused_at k p

-- Reading onto a table is reading the file alone and appending.
abbrev pub OntoIsAppending : Type 0
OntoIsAppending = (older : Table) (s : List ℕ) → length older ≤ most_macros → AddsWell older s

-- What the functions promise that write the lines of a pass behind a trace (02, N1).
use Rattle.std.specs.Prelude.{ℕ, ◌+◌, ◌≤◌, ◌<◌, ◌≡◌, Bool, true, false, List, length, Option, Some, None}
use Rattle.std.proofs.Math.Seq.{paste}
use Rattle.macros.specs.Bounds.{most_line_bytes}
use Rattle.lines.specs.Trace.{three_lines}

-- the text stands behind the first `at` bytes, in the place of as many bytes, and all others are as they were
pub record Puts (old : List ℕ) (at : ℕ) (text new : List ℕ) (r : ℕ) : Type 0 where
  pub room : at + length text ≤ length old
  pub holds : new ≡ paste old at text (length text)
  pub next : r ≡ at + length text

-- the three lines of a pass are put
abbrev pub Asked : List ℕ → ℕ → List ℕ → ℕ → List ℕ → List ℕ → ℕ → Type 0
Asked old at before number after new r = Puts old at (three_lines before number after) new r

-- there is room for them
pub record Room (old : List ℕ) (at : ℕ) (before : List ℕ) (number : ℕ) (after : List ℕ) : Type 0 where
  pub few : number < 100
  pub fits : at + length (three_lines before number after) ≤ length old

-- what is lent for a pass: a number of at most two digits, two texts, and a memory that has `at` bytes if a trace is asked for
pub record Lent (traced : Bool) (old : List ℕ) (at : ℕ) (before : List ℕ) (number : ℕ) (after : List ℕ) : Type 0 where
  pub few : number < 100
  pub short : length before ≤ most_line_bytes
  pub fits : length after ≤ most_line_bytes
  pub inside : traced ≡ true → at ≤ length old

-- the lines stand behind the trace so far, or do not fit and nothing is changed
abbrev pub TracesBy : List ℕ → ℕ → (lines new : List ℕ) → Option ℕ → Type 0
TracesBy old at lines new (Some n) = Puts old at lines new n
TracesBy old at lines new None = (length old < at + length lines) × (new ≡ old)

-- no trace is asked for, and nothing is changed
pub record NotTraced (old : List ℕ) (at : ℕ) (new : List ℕ) (r : Option ℕ) : Type 0 where
  pub same : new ≡ old
  pub next : r ≡ Some at

-- whether a trace is asked for
abbrev pub TracesIf : Bool → List ℕ → ℕ → (lines new : List ℕ) → Option ℕ → Type 0
TracesIf true old at lines new r = TracesBy old at lines new r
TracesIf false old at lines new r = NotTraced old at new r

-- the lines of a pass, put or not
pub record Traces (traced : Bool) (old : List ℕ) (at : ℕ) (before : List ℕ) (number : ℕ) (after new : List ℕ) (r : Option ℕ) : Type 0 where
  pub by : TracesIf traced old at (three_lines before number after) new r

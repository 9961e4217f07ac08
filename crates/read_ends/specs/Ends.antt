-- How the parts of a macro end.
use Rattle.std.specs.Prelude.{ℕ, ◌≡◌, List, length, replicate, Result, Ok, Err}
use Rattle.read_scan.specs.declared.ReadError.{ReadError}

-- the place behind a part and the end of the items written, or a refusal with its place
abbrev pub Ended : Type 0
Ended = Result (ℕ × ℕ) ReadError

-- the lent bytes behind an answer: a refusal leaves zeros
abbrev pub left_by : List ℕ → Ended → List ℕ
left_by out (Ok x) = out
left_by out (Err e) = replicate (length out) 0

-- that a refusal leaves zeros
abbrev pub Zeroed : List ℕ → List ℕ → Ended → Type 0
Zeroed old out (Ok x) = Unit {0}
Zeroed old out (Err e) = out ≡ replicate (length old) 0

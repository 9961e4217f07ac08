-- What the functions inside an occurrence promise: from one moment to the next (01, part 4).
use Rattle.std.specs.Prelude.{ℕ, ◌≤◌, ◌≡◌, List, length, take, drop, Result, Ok, Err}
use Rattle.macros.specs.Bounds.{most_line_bytes}
use Rattle.lines.specs.Replacing.{Work, Done, puts}
use Rattle.form_state.specs.Access.{Holds, IsState}
use Rattle.lines.specs.Replacing.Done.{bad, good}
use Rattle.lines.specs.Line.{text_of}
use Rattle.refusals.specs.Faults.{refusal_of}
use Rattle.refusals.specs.declared.WorkError.{WorkError}

-- the first n bytes are a moment's new line, and b is its state
pub record IsMoment (out b : List ℕ) (n : ℕ) (w : Work) : Type 0 where
  pub line : text_of w ≡ take n out
  pub size : w.size ≡ n
  pub state : Holds b w.state

-- what an answer says of the moment v that it leaves
abbrev pub done_of : Result ℕ WorkError → Work → Done
done_of (Ok n) v = good v
done_of (Err e) v = bad (refusal_of e.fault) v

-- the bytes of the new line
abbrev pub size_of : Result ℕ WorkError → ℕ
size_of (Ok n) = n
size_of (Err e) = e.size

-- the step f leads from the moment of out, b and k to that of out' and b', done or refused as r says;
-- the new line grows, and behind it nothing changes
pub record Does (f : Work → Done) (out b : List ℕ) (k : ℕ) (out' b' : List ℕ) (r : Result ℕ WorkError) : Type 0 where
  pub comes : (w : Work) → IsMoment out b k w → (v : Work) × (f w ≡ done_of r v) × IsMoment out' b' (size_of r) v
  pub state : IsState b'
  pub grows : k ≤ size_of r
  pub fits : size_of r ≤ most_line_bytes
  pub past : drop (size_of r) out' ≡ drop (size_of r) out

-- room for the new line, which has k bytes
pub record Room (out : List ℕ) (k : ℕ) : Type 0 where
  pub room : length out ≡ most_line_bytes
  pub fits : k ≤ most_line_bytes

-- a text is inserted, whatever the state
pub record Inserts (bytes out : List ℕ) (k : ℕ) (out' : List ℕ) (r : Result ℕ WorkError) : Type 0 where
  pub does : (b : List ℕ) → IsState b → Does (puts bytes) out b k out' b r

-- the new line stays as it is
pub record Kept (w v : Work) : Type 0 where
  pub out : v.out ≡ w.out
  pub size : v.size ≡ w.size

-- the step f leads from the state b to b', done or refused as r says; the new line, of k bytes, stays
pub record Changes (f : Work → Done) (b : List ℕ) (k : ℕ) (b' : List ℕ) (r : Result ℕ WorkError) : Type 0 where
  pub comes : (w : Work) → Holds b w.state → (v : Work) × (f w ≡ done_of r v) × Kept w v × Holds b' v.state
  pub state : IsState b'
  pub size : size_of r ≡ k

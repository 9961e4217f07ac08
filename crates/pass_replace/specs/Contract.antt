-- What the functions of an occurrence (01, part 4) and of the calls before a pattern (02, N2) promise.
use Rattle.std.specs.Prelude.{ℕ, ◌+◌, ◌≤◌, ◌≡◌, List, [], ◌∷◌, length, get_or, drop, Result}
use Rattle.macros.specs.Bounds.{most_line_bytes}
use Rattle.macros.specs.Macro.{Piece, Macro}
use Rattle.macros.specs.Formed.{Bytes}
use Rattle.macros.specs.Accepted.{Spellable}
use Rattle.form_table.specs.Form.{body_bytes, piece_items, slot}
use Rattle.lines.specs.State.{State}
use Rattle.lines.specs.Matching.{Division, stops}
use Rattle.lines.specs.Replacing.{Work, start_in, before_acts, occur}
use Rattle.form_state.specs.Access.{Holds, IsState}
use Rattle.refusals.specs.declared.WorkError.{WorkError}
use Rattle.pass_steps.specs.Moments.{IsMoment, done_of, size_of}

-- the bytes s are the slot of the macro m, which some file spells
pub record IsSlot (s : List ℕ) (m : Macro) : Type 0 where
  pub spellable : Spellable m
  pub form : slot m ≡ s

-- where each piece's span ends stands at the place of its first item; k: the place of these pieces' first
abbrev pub EndsFrom : List ℕ → ℕ → List Piece → List ℕ → Type 0
EndsFrom ends k [] [] = Unit {0}
EndsFrom ends k [] (q ∷ qs) = ⊥
EndsFrom ends k (e ∷ es) [] = ⊥
EndsFrom ends k (e ∷ es) (q ∷ qs) = (get_or ends k 0 ≡ q) × EndsFrom ends (k + length (piece_items e)) es qs

-- the ends are those of the division d of the macro m
pub record IsDivided (s ends : List ℕ) (m : Macro) (d : Division) : Type 0 where
  pub macro : IsSlot s m
  pub spans : EndsFrom ends 0 m.pattern (stops d)

-- what the caller lends: a macro's slot, the ends of a division of it, the line, a state, and the new line with size bytes
pub record Lent (s ends t b out : List ℕ) (size : ℕ) : Type 0 where
  pub divided : (m : Macro) × (d : Division) × IsDivided s ends m d
  pub count : length ends ≡ body_bytes
  pub inside : (i : ℕ) → get_or ends i 0 ≤ length t
  pub bytes : Bytes t
  pub short : length t ≤ most_line_bytes
  pub state : IsState b
  pub room : length out ≡ most_line_bytes
  pub sized : size ≤ most_line_bytes

-- the moment that the memories hold then is that of the definition, done or refused; behind the new line nothing changes
pub record Occurs (s ends t b b' out out' : List ℕ) (size : ℕ) (r : Result ℕ WorkError) : Type 0 where
  pub comes : (m : Macro) (d : Division) → IsDivided s ends m d → (w : Work) → IsMoment out b size w
      → (v : Work) × (occur m t d w ≡ done_of r v) × IsMoment out' b' (size_of r) v
  pub past : drop (size_of r) out' ≡ drop (size_of r) out
  pub within : size_of r ≤ most_line_bytes

-- THE CALLS BEFORE A PATTERN (02, N2)

-- what the caller lends: a macro's slot, and the state in which its first pass on a line begins
pub record Prepared (s b : List ℕ) : Type 0 where
  pub macro : (m : Macro) × IsSlot s m
  pub state : IsState b

-- the state that is held then is that of the definition, done or refused, and the answer has the bytes of its new line
pub record Prepares (s b b' : List ℕ) (r : Result ℕ WorkError) : Type 0 where
  pub comes : (m : Macro) → IsSlot s m → (st : State) → Holds b st
      → (v : Work) × (before_acts m (start_in st) ≡ done_of r v) × (v.size ≡ size_of r) × Holds b' v.state

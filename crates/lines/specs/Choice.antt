-- 01, part 3, "Chosen is the division with the most repeats": the laws that join the chooser to the divisions.
-- In brackets stand the edits of must-fail/ that a law rules out.
use Rattle.std.specs.Prelude.{◌≡◌, ℕ, ◌<◌, Bool, true, false, ◌⊎◌, ◌↔◌, List, [], ◌∷◌, drop}
use Rattle.std.proofs.Math.Option.{Option, none, some}
use Rattle.std.proofs.Math.ListN.{get_elem?}
use Rattle.macros.specs.Macro.{Closure, Piece, pick}
use Rattle.macros.specs.Macro.Closure.{once, one_or_more, zero_or_more}
use Rattle.macros.specs.Macro.Piece.{element, start, end, left, right}
use Rattle.lines.specs.State.{State}
use Rattle.lines.specs.Matching.{span, Division, Divides, Fewer}
use Rattle.lines.specs.Choosing.{chosen}

-- what it is to be chosen among the divisions D
abbrev pub Chosen : (Division → Type 0) → Option Division → Type 0
-- a division is chosen: it is one of them, and every other one has fewer repeats at the first closure where the two differ
Chosen D (some d) = D d × ((x : Division) → D x → (x ≡ d) ⊎ Fewer x d)
-- none is chosen: there is none
Chosen D none = (x : Division) → D x → ⊥

-- THE LAW: in every state, of every line t, for all pieces and at every place p, the chooser chooses among the divisions there
-- [fewest_repeats, empty_entry_no_times]
abbrev pub Choice : Type 0
Choice = (st : State) (t : List ℕ) (es : List Piece) (p : ℕ) → Chosen (Divides st t es p) (chosen st es p (drop p t))

-- the repeats of a division, piece by piece
abbrev pub repeats : Division → List ℕ
repeats [] = []
repeats (span n q ∷ d) = n ∷ repeats d

-- THE LAW: two divisions of the same pieces at the same place that have the same repeats are the same division [stop_free, brace_moves]
abbrev pub SameRepeats : Type 0
SameRepeats =
    (st : State) (t : List ℕ) (es : List Piece) (p : ℕ) (d x : Division)
    → Divides st t es p d → Divides st t es p x → repeats d ≡ repeats x → d ≡ x

-- FEWER REPEATS, AS THE DEMAND SAYS IT

-- a closure: `*` or `*-`
abbrev pub is_closure : Piece → Bool
is_closure (element u once) = false
is_closure (element u one_or_more) = true
is_closure (element u zero_or_more) = true
is_closure start = false
is_closure end = false
is_closure left = false
is_closure right = false

-- the repeats of a division of the pieces es, closure by closure
abbrev pub closure_repeats : List Piece → Division → List ℕ
closure_repeats [] d = []
closure_repeats (e ∷ es) [] = []
closure_repeats (e ∷ es) (span n q ∷ d) = pick (is_closure e) (n ∷ closure_repeats es d) (closure_repeats es d)

-- "fewer repeats at the first closure where they differ": a has m at some closure, where b has n, and all before it are equal
pub record FewerAtFirst (es : List Piece) (a b : Division) : Type 0 where
  pub closure : ℕ
  pub m : ℕ
  pub n : ℕ
  pub here : get_elem? (closure_repeats es a) closure ≡ some m
  pub there : get_elem? (closure_repeats es b) closure ≡ some n
  pub fewer : m < n
  pub equal : (k : ℕ) → k < closure → get_elem? (closure_repeats es a) k ≡ get_elem? (closure_repeats es b) k

-- THE LAW: of two divisions of the same pieces at the same place, Fewer says just that [fewer_at_last]
abbrev pub FewerMeans : Type 0
FewerMeans =
    (st : State) (t : List ℕ) (es : List Piece) (p : ℕ) (a b : Division)
    → Divides st t es p a → Divides st t es p b → Fewer a b ↔ FewerAtFirst es a b

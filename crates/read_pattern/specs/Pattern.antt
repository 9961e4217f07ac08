-- What the answers about a pattern say of the machine, behind any pieces read before.
use Rattle.std.specs.Prelude.{ℕ, ◌+◌, ◌-◌, ◌*◌, ◌≤◌, ◌<◌, ◌≡◌, true, false, List, [], ◌++◌, reverse, ltb, length, replicate, Result, Ok, Err}
use Rattle.macros.specs.Bounds.{most_tags}
use Rattle.macros.specs.Macro.{Piece, tags, elements, depth}
use Rattle.macros.specs.Read.{Prior}
use Rattle.macros.specs.ReadSoFar.Joinable.{nothing}
use Rattle.macros.specs.ReadSoFar.Part.{pattern, await_symbol}
use Rattle.read_scan.specs.Scan.MacroRead.{refused_at, pattern_to}
use Rattle.form_table.specs.Form.{pattern_items}
use Rattle.read_scan.specs.Scan.{fault_of, run, Here, Reached}
use Rattle.form_items.specs.Items.{Wrote, items_of}
use Rattle.read_scan.specs.declared.ReadError.{ReadError}
use Rattle.read_pattern.specs.declared.PatternSoFar.{PatternSoFar}
use Rattle.read_pattern.specs.declared.Inside.{Inside}
use Rattle.read_pattern.specs.declared.Inside.TheVariants.{Closed, Quote}
use Rattle.read_pattern.specs.declared.Whole.{Whole}

-- that the pieces have these tags, and whether they have an element
abbrev pub Fits : List Piece → PatternSoFar → Type 0
Fits ps f = (tags ps ≡ f.tags) × (ltb 0 (elements ps) ≡ f.some)

-- behind any pieces that fit f, the machine goes from p to q and reads these pieces, balanced; then they fit g, and their items are written
pub record Grown (s : List ℕ) (a p : ℕ) (f : PatternSoFar) (q : ℕ) (g : PatternSoFar) (old out : List ℕ) : Type 0 where
  pub pieces : List Piece
  pub fits : (ps : List Piece) → Fits ps f → Fits (pieces ++ ps) g
  pub level : (ps : List Piece) → depth (pieces ++ ps) ≡ depth ps
  pub answer : (ps : List Piece) → Fits ps f → (pr : Prior)
      → run s a pr false p (pattern nothing ps) ≡ run s a pr false q (pattern nothing (pieces ++ ps))
  pub wrote : Wrote old out f.used (items_of pieces)
  pub used : g.used ≡ f.used + length (items_of pieces)

-- that the run of pieces from p ends at q before the byte b
pub record Ends (s : List ℕ) (a p : ℕ) (f : PatternSoFar) (q : ℕ) (g : PatternSoFar) (old out : List ℕ) (b : ℕ) : Type 0 where
  pub further : p ≤ q
  pub here : Here s a q b
  pub tagged : g.tags ≤ most_tags
  pub room : g.used ≤ f.used + 2 * (q - p)
  pub grown : Grown s a p f q g old out

-- the pieces up to a right brace or the quote, or the refusal
abbrev pub ReadsBy : List ℕ → ℕ → ℕ → PatternSoFar → List ℕ → List ℕ → Result Inside ReadError → Type 0
ReadsBy s a p f old out (Ok (Closed q g)) = Ends s a p f q g old out 125
ReadsBy s a p f old out (Ok (Quote q g)) = Ends s a p f q g old out 39
ReadsBy s a p f old out (Err e) =
    (e.place ≤ length s) × ((ps : List Piece) → Fits ps f → (pr : Prior) → run s a pr false p (pattern nothing ps) ≡ refused_at (fault_of e.fault) e.place)

-- what reading from p up to a right brace or the quote says, behind any pieces that fit f, by the answer
pub record Reads (s : List ℕ) (a p : ℕ) (f : PatternSoFar) (old out : List ℕ) (r : Result Inside ReadError) : Type 0 where
  pub is : ReadsBy s a p f old out r

-- the pieces of the pattern that begins at p, in the macro that began at a, newest first, as the machine has them behind the closing
-- quote, at q; their items are written from n up to j
pub record Patterned (s : List ℕ) (a p q t : ℕ) (old out : List ℕ) (n j : ℕ) : Type 0 where
  pub pieces : List Piece
  pub further : p < q
  pub reached : Reached s a q
  pub tagged : tags pieces ≡ t
  pub few : t ≤ most_tags
  pub answer : (pr : Prior) → run s a pr false p (pattern nothing []) ≡ pattern_to q pieces (run s a pr false q (await_symbol pieces))
  pub wrote : Wrote old out n (pattern_items (reverse pieces))
  pub used : j ≡ n + length (pattern_items (reverse pieces))
  pub room : j + 2 ≤ n + 2 * (q - p)

-- what reading a whole pattern from p on says, by the answer
abbrev pub Begins : List ℕ → ℕ → ℕ → List ℕ → List ℕ → ℕ → Result Whole ReadError → Type 0
Begins s a p old out n (Ok w) = Patterned s a p w.place w.tags old out n w.used
Begins s a p old out n (Err e) =
    (e.place ≤ length s) × ((pr : Prior) → run s a pr false p (pattern nothing []) ≡ refused_at (fault_of e.fault) e.place)

-- that a refusal leaves zeros
abbrev pub Zeroed : List ℕ → List ℕ → Result Whole ReadError → Type 0
Zeroed old out (Ok w) = Unit {0}
Zeroed old out (Err e) = out ≡ replicate (length old) 0

-- what reading a whole pattern says of the answer and of all lent bytes
pub record Starts (s : List ℕ) (a p : ℕ) (old out : List ℕ) (n : ℕ) (r : Result Whole ReadError) : Type 0 where
  pub begins : Begins s a p old out n r
  pub zeros : Zeroed old out r

-- how far a pattern is behind a left brace
abbrev pub behind_left : PatternSoFar → PatternSoFar
behind_left f = record { tags = f.tags + 1; some = f.some; used = f.used + 2 }

-- how far it is behind a right brace
abbrev pub behind_right : PatternSoFar → PatternSoFar
behind_right f = record { tags = f.tags; some = f.some; used = f.used + 2 }

-- how far it is behind an element that is written up to n
abbrev pub behind_element : PatternSoFar → ℕ → PatternSoFar
behind_element f n = record { tags = f.tags; some = true; used = n }

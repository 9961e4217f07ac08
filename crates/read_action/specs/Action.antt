-- The replacement, and what is waited for before it: what reading them says of the machine.
use Rattle.std.specs.Prelude.{ℕ, ◌+◌, ◌-◌, ◌*◌, ◌≤◌, ◌<◌, ◌≡◌, Bool, true, false, ◌||◌, List, [], ◌++◌, reverse, eqb, length}
use Rattle.std.specs.Prelude.{Result, Ok, Err}
use Rattle.std.proofs.Math.Option.{none}
use Rattle.macros.specs.Refusals.{FileRefusal}
use Rattle.macros.specs.Refusals.FileRefusal.{incomplete, bad_call}
use Rattle.macros.specs.Macro.{Piece, Action, Symbol, pick, tags, mark_byte}
use Rattle.macros.specs.Macro.Symbol.{equal, less}
use Rattle.macros.specs.Read.{Prior, Front}
use Rattle.macros.specs.ReadSoFar.Part.{await_symbol, await_quote, replacement, commands}
use Rattle.read_scan.specs.Scan.MacroRead.{refused_at}
use Rattle.form_table.specs.Form.{replacement_items}
use Rattle.read_scan.specs.Scan.{fault_of, run, Reached, Here}
use Rattle.form_items.specs.Items.{Wrote}
use Rattle.read_call.specs.Call.{mark_of}
use Rattle.read_ends.specs.Ends.{Ended, Zeroed}
use Rattle.read_scan.specs.Bytes.{Next}
use Rattle.read_scan.specs.declared.ReadError.{ReadError}

-- BETWEEN PATTERN AND REPLACEMENT

-- `=`, else `<`
unfoldable pub symbol_of : ℕ → Symbol
symbol_of b = pick (eqb b 61) equal less

-- what looking for the symbol says: it is the byte b at q
abbrev pub SymbolAt : List ℕ → ℕ → ℕ → Next → Type 0
SymbolAt s a p (Ok (b, q)) =
    (p ≤ q) × Here s a q b × ((ps : List Piece) (pr : Prior)
    → run s a pr false p (await_symbol ps) ≡ run s a pr false (q + 1) (await_quote (record { pieces = ps; symbol = symbol_of b })))
SymbolAt s a p (Err e) =
    (e.place ≤ length s) × ((ps : List Piece) (pr : Prior) → run s a pr false p (await_symbol ps) ≡ refused_at (fault_of e.fault) e.place)

-- what looking for the replacement's first quote says: it stands at q
abbrev pub QuoteAt : List ℕ → ℕ → ℕ → Result ℕ ReadError → Type 0
QuoteAt s a p (Ok q) =
    (p ≤ q) × Here s a q 39 × ((f : Front) (pr : Prior)
    → run s a pr false p (await_quote f) ≡ run s a pr false (q + 1) (replacement none f []))
QuoteAt s a p (Err e) = (e.place ≤ length s) × ((g : Front) (pr : Prior) → run s a pr false p (await_quote g) ≡ refused_at (fault_of e.fault) e.place)

-- what looking for both says: the symbol is the byte b, and the quote stands at q
abbrev pub FrontAt : List ℕ → ℕ → ℕ → Next → Type 0
FrontAt s a p (Ok (b, q)) =
    (p < q) × Reached s a (q + 1) × ((ps : List Piece) (pr : Prior)
    → run s a pr false p (await_symbol ps)
    ≡ run s a pr false (q + 1) (replacement none (record { pieces = ps; symbol = symbol_of b }) []))
FrontAt s a p (Err e) =
    (e.place ≤ length s) × ((ps : List Piece) (pr : Prior) → run s a pr false p (await_symbol ps) ≡ refused_at (fault_of e.fault) e.place)

-- REPLACEMENT

-- that a byte is `&` or `#`
abbrev pub IsMark : ℕ → Bool → Type 0
IsMark b true = mark_byte (mark_of (eqb b 35)) ≡ b
IsMark b false = (b ≡ 38 → ⊥) × (b ≡ 35 → ⊥)

-- what a byte other than a digit or `}` shows in `{n}`
unfoldable pub wrong_tag : ℕ → FileRefusal
wrong_tag b = pick (eqb b 59 || eqb b 10) incomplete bad_call

-- the actions, newest first, read from p up to q behind a pattern of k tags, and their items written from n up to e
pub record Acts (s : List ℕ) (a p : ℕ) (old out : List ℕ) (n k q e : ℕ) : Type 0 where
  pub actions : List Action
  pub wrote : Wrote old out n (replacement_items (reverse actions))
  pub used : e ≡ n + length (replacement_items (reverse actions))
  pub room : e ≤ n + 2 * (q - p)
  pub reached : Reached s a q
  pub answer : (f : Front) (l : List Action) → tags f.pieces ≡ k → (pr : Prior)
      → run s a pr false p (replacement none f l) ≡ run s a pr false q (replacement none f (actions ++ l))

-- what reading one part of a replacement says
abbrev pub ActionFrom : List ℕ → ℕ → ℕ → List ℕ → List ℕ → ℕ → ℕ → Ended → Type 0
ActionFrom s a p old out n k (Ok (q, e)) = (p < q) × Acts s a p old out n k q e
ActionFrom s a p old out n k (Err e) =
    (e.place ≤ length s) × ((g : Front) (l : List Action) → tags g.pieces ≡ k → (pr : Prior)
    → run s a pr false p (replacement none g l) ≡ refused_at (fault_of e.fault) e.place)

-- an escape knows no tags
abbrev pub EscapeFrom : List ℕ → ℕ → ℕ → List ℕ → List ℕ → ℕ → Ended → Type 0
EscapeFrom s a p old out n r = (k : ℕ) → ActionFrom s a p old out n k r

-- a replacement read from p up to q, behind its last quote
pub record Replaced (s : List ℕ) (a p : ℕ) (old out : List ℕ) (n k q e : ℕ) : Type 0 where
  -- newest first
  pub actions : List Action
  pub wrote : Wrote old out n (replacement_items (reverse actions))
  pub used : e ≡ n + length (replacement_items (reverse actions))
  pub room : e ≤ n + 2 * (q - p)
  pub further : p < q
  pub reached : Reached s a q
  pub answer : (f : Front) → tags f.pieces ≡ k → (pr : Prior)
      → run s a pr false p (replacement none f []) ≡ run s a pr false q (commands none f actions [])

-- what reading a replacement says
abbrev pub ReplacedFrom : List ℕ → ℕ → ℕ → List ℕ → List ℕ → ℕ → ℕ → Ended → Type 0
ReplacedFrom s a p old out n k (Ok (q, e)) = Replaced s a p old out n k q e
ReplacedFrom s a p old out n k (Err e) =
    (e.place ≤ length s) × ((g : Front) → tags g.pieces ≡ k → (pr : Prior)
    → run s a pr false p (replacement none g []) ≡ refused_at (fault_of e.fault) e.place)

-- the same, and what is left in all lent bytes
pub record ReplacementRead (s : List ℕ) (a p : ℕ) (old out : List ℕ) (n k : ℕ) (r : Ended) : Type 0 where
  pub from : ReplacedFrom s a p old out n k r
  pub zeros : Zeroed old out r

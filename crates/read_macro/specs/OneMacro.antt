-- A macro from where it begins to its `;`: what reading it says of the machine.
use Rattle.std.specs.Prelude.{ℕ, ◌+◌, ◌-◌, ◌*◌, ◌≤◌, ◌<◌, ◌≡◌, false, List, [], ◌∷◌, ◌++◌, reverse, length, get_or, replicate}
use Rattle.std.specs.Prelude.{Result, Ok, Err}
use Rattle.std.proofs.Math.Option.{none}
use Rattle.macros.specs.Bounds.{most_tags}
use Rattle.macros.specs.Macro.{Macro, Action, Call, tags}
use Rattle.macros.specs.Read.{Front, Prior, no_calls, macro_of}
use Rattle.macros.specs.ReadSoFar.Joinable.{nothing}
use Rattle.macros.specs.ReadSoFar.Part.{pattern as patterning, replacement as parting}
use Rattle.form_table.specs.Form.{body_bytes, two, symbol_code, replacement_items, calls_items, header, body}
use Rattle.read_scan.specs.Scan.{MacroRead, fault_of, run, Reached}
use Rattle.read_scan.specs.Scan.MacroRead.{refused_at as none_at, pattern_to, macro_to}
use Rattle.form_items.specs.Items.{Wrote}
use Rattle.read_action.specs.Action.{symbol_of}
use Rattle.read_start.specs.Start.{first_part, started}
use Rattle.read_scan.specs.declared.ReadError.{ReadError}
use Rattle.read_ends.specs.Ends.{Ended}
use Rattle.read_macro.specs.declared.Head.{Head}
use Rattle.read_macro.specs.declared.Built.{Built}

-- reading one macro, without where its pattern ends
unfoldable pub ended : MacroRead → MacroRead
ended (none_at c q) = none_at c q
ended (pattern_to q ps o) = ended o
ended (macro_to q m) = macro_to q m

-- that macro, behind others, and the place behind its `;`; or the refusal with its place
unfoldable pub macro_at : List ℕ → (a p : ℕ) → List Macro → MacroRead
macro_at s a p ms = ended (started s a p (no_calls ms))

-- the calls before its pattern, newest first, and the quote, read from p up to v; their items are written from 0 up to n
pub record Preceded (s : List ℕ) (a p : ℕ) (old out : List ℕ) (v n : ℕ) : Type 0 where
  pub calls : List Call
  pub wrote : Wrote old out 0 (calls_items (reverse calls))
  pub used : n ≡ length (calls_items (reverse calls))
  pub room : n ≤ 2 * (v - p)
  pub further : p ≤ v
  pub reached : Reached s a v
  pub answer : (ms : List Macro) → run s a (no_calls ms) false p (first_part (get_or s a 0))
      ≡ run s a (record { calls = calls; macros = ms }) false v (patterning nothing [])

-- what reading them says
abbrev pub PrecededBy : List ℕ → (a p : ℕ) → List ℕ → List ℕ → Ended → Type 0
PrecededBy s a p old out (Ok (v, n)) = Preceded s a p old out v n
PrecededBy s a p old out (Err e) =
    (e.place ≤ length s) × ((ms : List Macro) → run s a (no_calls ms) false p (first_part (get_or s a 0)) ≡ none_at (fault_of e.fault) e.place)

-- the first ten bytes of a slot
abbrev pub head_bytes : Head → List ℕ
head_bytes h =
    h.symbol ∷ h.tags ∷ (two h.before ++ (two h.pattern ++ (two h.replacement ++ two h.commands)))

-- the bytes behind them that are in use
abbrev pub used_bytes : Head → ℕ
used_bytes h = h.before + h.pattern + h.replacement + h.commands

-- the macro that begins at a, read from p up to q, behind its `;`; its items are written from 0 on
pub record Macroed (s : List ℕ) (a p q : ℕ) (old out : List ℕ) (h : Head) : Type 0 where
  pub itself : Macro
  pub head : header itself ≡ head_bytes h
  pub size : length (body itself) ≡ used_bytes h
  pub few : h.tags ≤ most_tags
  pub fits : used_bytes h ≤ body_bytes
  pub wrote : Wrote old out 0 (body itself)
  pub further : p < q
  pub reached : q ≤ length s
  pub exact : (ms : List Macro) → macro_at s a p ms ≡ macro_to q itself

-- what reading a macro says
abbrev pub MacroFrom : List ℕ → (a p : ℕ) → List ℕ → List ℕ → Result Built ReadError → Type 0
MacroFrom s a p old out (Ok b) = Macroed s a p b.place old out b.head
MacroFrom s a p old out (Err e) = (e.place ≤ length s) × ((ms : List Macro) → macro_at s a p ms ≡ none_at (fault_of e.fault) e.place)

-- that a refusal leaves zeros
abbrev pub NoMacroZeros : List ℕ → List ℕ → Result Built ReadError → Type 0
NoMacroZeros old out (Ok b) = Unit {0}
NoMacroZeros old out (Err e) = out ≡ replicate (length old) 0

-- what reading a macro says of the answer and of all lent bytes
pub record ReadsMacro (s : List ℕ) (a p : ℕ) (old out : List ℕ) (r : Result Built ReadError) : Type 0 where
  pub from : MacroFrom s a p old out r
  pub zeros : NoMacroZeros old out r

-- behind a pattern of k tags, whose items stand from n up to i, and the symbol b: the replacement and the commands read from p up to q,
-- behind the `;`; their items are written from i on
pub record Parted (s : List ℕ) (a p : ℕ) (old out : List ℕ) (b n i k q : ℕ) (h : Head) : Type 0 where
  -- newest first
  pub actions : List Action
  pub calls : List Call
  pub symbol : h.symbol ≡ symbol_code (symbol_of b)
  pub tagged : h.tags ≡ k
  pub first : h.before ≡ n
  pub second : h.pattern ≡ i - n
  pub third : h.replacement ≡ length (replacement_items (reverse actions))
  pub fourth : h.commands ≡ length (calls_items (reverse calls))
  pub wrote : Wrote old out i (replacement_items (reverse actions) ++ calls_items (reverse calls))
  pub room : h.replacement + h.commands + 2 ≤ 2 * (q - p)
  pub further : p < q
  pub reached : q ≤ length s
  pub counted : q ≤ a + 512
  pub answer : (f : Front) → tags f.pieces ≡ k → (pr : Prior)
      → run s a pr false p (parting none f []) ≡ macro_to q (macro_of pr.calls f actions calls)

-- what reading them says
abbrev pub PartsFrom : List ℕ → ℕ → ℕ → List ℕ → List ℕ → (b n i k : ℕ) → Result Built ReadError → Type 0
PartsFrom s a p old out b n i k (Ok x) = Parted s a p old out b n i k x.place x.head
PartsFrom s a p old out b n i k (Err e) =
    (e.place ≤ length s) × ((g : Front) → tags g.pieces ≡ k → (pr : Prior)
    → run s a pr false p (parting none g []) ≡ none_at (fault_of e.fault) e.place)

-- Commands, before a pattern or behind a replacement: what reading them says of the machine.
use Rattle.std.specs.Prelude.{ℕ, ◌+◌, ◌-◌, ◌*◌, ◌≤◌, ◌<◌, ◌≡◌, Bool, true, false, List, [], ◌++◌, reverse, length}
use Rattle.std.specs.Prelude.{Ok, Err}
use Rattle.std.proofs.Math.Option.{Option, none}
use Rattle.macros.specs.Macro.{Mark, Call, Action, tags}
use Rattle.macros.specs.Read.{Part, Prior, Site, Front}
use Rattle.macros.specs.ReadSoFar.Site.{before_pattern, as_command}
use Rattle.macros.specs.ReadSoFar.CallSite.{calls_so_far}
use Rattle.macros.specs.ReadSoFar.Phase.{begun}
use Rattle.macros.specs.ReadSoFar.Part.{calls, calling, commands}
use Rattle.read_scan.specs.Scan.MacroRead.{refused_at}
use Rattle.form_table.specs.Form.{calls_items}
use Rattle.read_scan.specs.Scan.{fault_of, run, Reached, Here}
use Rattle.form_items.specs.Items.{Wrote}
use Rattle.read_call.specs.Call.{mark_of}
use Rattle.read_ends.specs.Ends.{Ended, Zeroed}
use Rattle.read_scan.specs.declared.ReadError.{ReadError}

-- where they stand
abbrev pub site_by : Bool → Site
site_by true = before_pattern
site_by false = as_command

-- the byte that ends them: the pattern's quote, or the macro's `;`
abbrev pub last_byte : Bool → ℕ
last_byte true = 39
last_byte false = 59

-- the one of both that is out of turn
abbrev pub stray_byte : Bool → ℕ
stray_byte true = 59
stray_byte false = 39

-- what was read of their macro ahead of them
abbrev pub Ahead : Bool → Type 0
Ahead true = Unit {0}
Ahead false = Front × List Action

-- the tags of its pattern
abbrev pub tags_ahead : (before : Bool) → Ahead before → ℕ
tags_ahead true x = 0
tags_ahead false x = tags x.0.pieces

-- the commands so far, with a `&` or `#` that `(` may join
abbrev pub listed : (before : Bool) → Ahead before → Option Mark → List Call → Part
listed true x m cs = calls m cs
listed false x m cs = commands m x.0 x.1 cs

-- the commands, newest first, read from p up to q behind a pattern of k tags, or before one, and their items written from n up to e
pub record Lists (s : List ℕ) (a p : ℕ) (old out : List ℕ) (n : ℕ) (before : Bool) (k q e : ℕ) : Type 0 where
  pub calls : List Call
  pub wrote : Wrote old out n (calls_items (reverse calls))
  pub used : e ≡ n + length (calls_items (reverse calls))
  pub room : e ≤ n + 2 * (q - p)
  pub reached : Reached s a q
  pub answer : (x : Ahead before) (cs : List Call) → tags_ahead before x ≡ k → (pr : Prior)
      → run s a pr false p (listed before x none cs) ≡ run s a pr false q (listed before x none (calls ++ cs))

-- that they are refused
abbrev pub Unlisted : List ℕ → ℕ → ℕ → Bool → ℕ → ReadError → Type 0
Unlisted s a p before k e =
    (e.place ≤ length s) × ((x : Ahead before) (cs : List Call) → tags_ahead before x ≡ k → (pr : Prior)
    → run s a pr false p (listed before x none cs) ≡ refused_at (fault_of e.fault) e.place)

-- what reading one command, or a byte of other text, says
abbrev pub CommandFrom : List ℕ → ℕ → ℕ → List ℕ → List ℕ → ℕ → Bool → ℕ → Ended → Type 0
CommandFrom s a p old out n before k (Ok (q, e)) = (p < q) × Lists s a p old out n before k q e
CommandFrom s a p old out n before k (Err e) = Unlisted s a p before k e

-- what reading all of them says: the byte that ends them stands at q
abbrev pub ListedFrom : List ℕ → ℕ → ℕ → List ℕ → List ℕ → ℕ → Bool → ℕ → Ended → Type 0
ListedFrom s a p old out n before k (Ok (q, e)) = (p ≤ q) × Here s a q (last_byte before) × Lists s a p old out n before k q e
ListedFrom s a p old out n before k (Err e) = Unlisted s a p before k e

-- BEHIND A REPLACEMENT

-- the commands, newest first, read from p up to q behind a pattern of k tags, and their items written from n up to e
pub record Does (s : List ℕ) (a p : ℕ) (old out : List ℕ) (n k q e : ℕ) : Type 0 where
  pub calls : List Call
  pub wrote : Wrote old out n (calls_items (reverse calls))
  pub used : e ≡ n + length (calls_items (reverse calls))
  pub room : e ≤ n + 2 * (q - p)
  pub reached : Reached s a q
  pub answer : (f : Front) (l : List Action) (cs : List Call) → tags f.pieces ≡ k → (pr : Prior)
      → run s a pr false p (commands none f l cs) ≡ run s a pr false q (commands none f l (calls ++ cs))

-- what reading the commands says: they end at the `;` at q
abbrev pub CommandsFrom : List ℕ → ℕ → ℕ → List ℕ → List ℕ → ℕ → ℕ → Ended → Type 0
CommandsFrom s a p old out n k (Ok (q, e)) = (p ≤ q) × Here s a q 59 × Does s a p old out n k q e
CommandsFrom s a p old out n k (Err e) =
    (e.place ≤ length s) × ((g : Front) (l : List Action) (cs : List Call) → tags g.pieces ≡ k → (pr : Prior)
    → run s a pr false p (commands none g l cs) ≡ refused_at (fault_of e.fault) e.place)

-- the same, and what is left in all lent bytes
pub record CommandsRead (s : List ℕ) (a p : ℕ) (old out : List ℕ) (n k : ℕ) (r : Ended) : Type 0 where
  pub from : CommandsFrom s a p old out n k r
  pub zeros : Zeroed old out r

-- BEFORE A PATTERN

-- the calls, newest first, read up to q from p, behind the `&(` or, if c, the `#(` of the first; their items are written from n up to e
pub record Before (s : List ℕ) (a p : ℕ) (old out : List ℕ) (n : ℕ) (c : Bool) (q e : ℕ) : Type 0 where
  pub calls : List Call
  pub wrote : Wrote old out n (calls_items (reverse calls))
  pub used : e ≡ n + length (calls_items (reverse calls))
  pub room : e ≤ n + 2 * (q - p)
  pub reached : Reached s a q
  pub answer : (pr : Prior)
      → run s a pr false p (calling (calls_so_far []) (begun (mark_of c))) ≡ run s a pr false q (listed true tt none calls)

-- what reading the calls says: they end at the pattern's quote at q
abbrev pub BeforeFrom : List ℕ → ℕ → ℕ → List ℕ → List ℕ → ℕ → Bool → Ended → Type 0
BeforeFrom s a p old out n c (Ok (q, e)) = (p ≤ q) × Here s a q 39 × Before s a p old out n c q e
BeforeFrom s a p old out n c (Err e) =
    (e.place ≤ length s) × ((pr : Prior) → run s a pr false p (calling (calls_so_far []) (begun (mark_of c))) ≡ refused_at (fault_of e.fault) e.place)

-- the same, and what is left in all lent bytes
pub record BeforeRead (s : List ℕ) (a p : ℕ) (old out : List ℕ) (n : ℕ) (c : Bool) (r : Ended) : Type 0 where
  pub from : BeforeFrom s a p old out n c r
  pub zeros : Zeroed old out r

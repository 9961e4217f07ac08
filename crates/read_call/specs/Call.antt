-- Calls: what reading one says of the machine, at every place where it may stand.
use Rattle.std.specs.Prelude.{ℕ, ◌+◌, ◌≤◌, ◌<◌, ◌≡◌, Bool, true, false, ◌&&◌, List, [], ◌∷◌, eqb, length, Result, Ok, Err, Option as Maybe, Some, None}
use Rattle.std.proofs.Math.Option.{Option, none}
use Rattle.macros.specs.Macro.{Mark, Sign, Move, Call, pick, within, ascii_lower, digit}
use Rattle.macros.specs.Macro.Mark.{stack, counter}
use Rattle.macros.specs.Macro.Move.{still, before, after}
use Rattle.macros.specs.Macro.Call.{insert}
use Rattle.macros.specs.Formed.{number_fits}
use Rattle.macros.specs.Read.{Prior, Site, CallSite, Phase, call_byte, site_of, may_insert, may_store_tag}
use Rattle.macros.specs.ReadSoFar.Site.{before_pattern, in_replacement, as_command}
use Rattle.macros.specs.Read.{is_sign, sign_of, is_still, number_end as closing}
use Rattle.macros.specs.ReadSoFar.Part.{calling}
use Rattle.macros.specs.ReadSoFar.Phase.{begun, named, tagged, tag_named}
use Rattle.macros.specs.ReadCalls.Turn.{into, text_of, closed, wrong}
use Rattle.read_scan.specs.Scan.MacroRead.{refused_at}
use Rattle.form_bytes.specs.Fours.{four}
use Rattle.form_table.specs.Form.{call_items, move_code}
use Rattle.read_scan.specs.Scan.{fault_of, run, Here}
use Rattle.read_scan.specs.declared.FileFault.{FileFault}
use Rattle.read_scan.specs.declared.ReadError.{ReadError}
use Rattle.read_ends.specs.Ends.{Ended, Zeroed}
use Rattle.read_text.specs.Text.{Ends}
use Rattle.read_number.specs.Number.{Eats, most}
use Rattle.read_call.specs.declared.Site.{Site as CodeSite}
use Rattle.read_call.specs.declared.Site.TheVariants.{BeforePattern, Replacement, Command}
use Rattle.read_call.specs.declared.Name.{Name}
use Rattle.read_call.specs.declared.Tail.{Tail}
use Rattle.read_call.specs.declared.Tail.TheVariants.{Text, Set, Insert}

-- `#` if true, else `&`
abbrev pub mark_of : Bool → Mark
mark_of true = counter
mark_of false = stack

-- the place that each one of the code is
abbrev pub site_is : CodeSite → Site
site_is BeforePattern = before_pattern
site_is Replacement = in_replacement
site_is Command = as_command

-- LETTERS AND THEIR SIGNS

-- a sign's part of its move's code
unfoldable pub sign_code : ℕ → ℕ
sign_code b = pick (eqb b 43) 1 2

-- phases that take a letter with at most one sign, where sg says whether one may stand: at the first byte b; behind a sign; behind a letter
pub record Names (si : Site) (sg : Bool) (b : ℕ) (start : Phase) (sgn : Sign → Phase) (nam : ℕ → Move → Phase) : Type 0 where
  pub first : call_byte si start b ≡ pick (is_sign b && sg) (into (sgn (sign_of b))) (pick (ascii_lower b) (into (nam b still)) wrong)
  pub second : (x : Sign) (c : ℕ) → call_byte si (sgn x) c ≡ pick (ascii_lower c) (into (nam c (before x))) wrong
  pub third : (i c : ℕ) → (is_sign c && sg) ≡ true → call_byte si (nam i still) c ≡ into (nam i (after (sign_of c)))

-- the letter i with a move of the code m, read from b at p on, and the byte c behind them at q
pub record Letter (s : List ℕ) (a p b : ℕ) (sg : Bool) (i m c q : ℕ) : Type 0 where
  pub move : Move
  pub code : m ≡ move_code move
  pub here : Here s a q c
  pub solid : c ≡ 32 → ⊥
  pub further : p < q
  -- no sign that could still join
  pub last : is_still move ≡ true → (is_sign c && sg) ≡ false
  pub answer : (pl : CallSite) (start : Phase) (sgn : Sign → Phase) (nam : ℕ → Move → Phase) → Names (site_of pl) sg b start sgn nam
      → (pr : Prior)
      → run s a pr false p (calling pl start) ≡ run s a pr false q (calling pl (nam i move))

-- a letter with its move's code, and the byte behind them with its place; or a refusal with its place
abbrev pub Named : Type 0
Named = Result Name ReadError

abbrev pub name_read : ℕ → ℕ → ℕ → ℕ → Named
name_read i m c q = Ok (record { letter = i; move_code = m; behind = c; place = q })

abbrev pub no_name : FileFault → ℕ → Named
no_name f q = Err (record { fault = f; place = q })

-- what reading a letter says
abbrev pub Naming : List ℕ → ℕ → ℕ → ℕ → Bool → Named → Type 0
Naming s a p b sg (Ok x) = Letter s a p b sg x.letter x.move_code x.behind x.place
Naming s a p b sg (Err d) =
    (d.place ≤ length s) × ((pl : CallSite) (start : Phase) (sgn : Sign → Phase) (nam : ℕ → Move → Phase)
    → Names (site_of pl) sg b start sgn nam → (pr : Prior) → run s a pr false p (calling pl start) ≡ refused_at (fault_of d.fault) d.place)

-- whether a letter may have a sign: a counter's only where it may insert
abbrev pub signs_in : Bool → Site → Bool
signs_in true si = may_insert si
signs_in false si = true

-- the letter i with a move of the code m behind a tag's number and its comma, read from the comma at p on, and the byte d behind them at q
pub record TagLetter (s : List ℕ) (a p i m d q : ℕ) : Type 0 where
  pub move : Move
  pub code : m ≡ move_code move
  pub here : Here s a q d
  pub solid : d ≡ 32 → ⊥
  pub further : p + 1 < q
  pub last : is_still move ≡ true → (is_sign d && true) ≡ false
  pub answer : (w : ℕ) (pl : CallSite) (pr : Prior)
      → run s a pr false p (calling pl (tagged w)) ≡ run s a pr false q (calling pl (tag_named w i move))

-- what reading them says
abbrev pub TagNaming : List ℕ → ℕ → ℕ → Named → Type 0
TagNaming s a p (Ok x) = TagLetter s a p x.letter x.move_code x.behind x.place
TagNaming s a p (Err d) =
    (d.place ≤ length s) × ((w : ℕ) (pl : CallSite) (pr : Prior) → run s a pr false p (calling pl (tagged w)) ≡ refused_at (fault_of d.fault) d.place)

-- THE ENDS OF CALLS

-- a whole call, in a pattern of k tags
abbrev pub CalledFrom : List ℕ → ℕ → ℕ → List ℕ → List ℕ → ℕ → Mark → Site → ℕ → Ended → Type 0
CalledFrom s a p old out n m si k r = Ends s a p old out n 0 si k (λ pl. calling pl (begun m)) r

-- what reading a whole call says of the answer and of all lent bytes
pub record CallRead (s : List ℕ) (a p : ℕ) (old out : List ℕ) (n : ℕ) (m : Mark) (si : Site) (k : ℕ) (r : Ended) : Type 0 where
  pub from : CalledFrom s a p old out n m si k r
  pub zeros : Zeroed old out r

-- one that begins with a letter knows no tags
abbrev pub NamedFrom : List ℕ → ℕ → ℕ → List ℕ → List ℕ → ℕ → Mark → Site → Ended → Type 0
NamedFrom s a p old out n m si r = (k : ℕ) → CalledFrom s a p old out n m si k r

-- that a byte is none that the number of a stack's tag could begin with, where one may be stored
abbrev pub Starts : Bool → Site → ℕ → Type 0
Starts c si b = c ≡ false → (digit b && may_store_tag si) ≡ false

-- phases that take a number of at most top and a `)`: their calls
pub record Sets (code i top : ℕ) (ph : Option ℕ → Phase) (c : ℕ → Call) : Type 0 where
  pub eats : (pl : CallSite) → Eats true (λ o. calling pl (ph o))
  pub others : (si : Site) (o : Option ℕ) (b : ℕ) → digit b ≡ false → (b ≡ 41 → ⊥) → call_byte si (ph o) b ≡ wrong
  pub closes : (si : Site) (o : Option ℕ) → call_byte si (ph o) 41 ≡ closing c o
  pub fits : (k v : ℕ) → number_fits k (c v) ≡ within 1 top v
  pub items : (v : ℕ) → call_items (c v) ≡ code ∷ i ∷ four v

-- what reading the number and the `)` of a call that sets gives
abbrev pub SetFrom : List ℕ → ℕ → ℕ → List ℕ → List ℕ → ℕ → ℕ → ℕ → ℕ → Ended → Type 0
SetFrom s a p old out n code i top r =
    (ph : Option ℕ → Phase) (c : ℕ → Call) → Sets code i top ph c → (si : Site) (k : ℕ)
    → Ends s a p old out n 4 si k (λ pl. calling pl (ph none)) r

-- what the byte c behind a letter with a move of the code m asks for, where sg says whether a sign may stand
abbrev pub Asks : Mark → Site → Bool → ℕ → ℕ → Maybe Tail → Type 0
Asks mk si sg c m (Some Text) = (i : ℕ) (v : Move) → m ≡ move_code v → call_byte si (named mk i v) c ≡ text_of i v
Asks mk si sg c m (Some (Set code top)) =
    (top ≤ 999999999) × ((i : ℕ) (v : Move) → m ≡ move_code v → (ph : Option ℕ → Phase) × (d : ℕ → Call) × Sets code i top ph d
    × (call_byte si (named mk i v) c ≡ into (ph none)))
Asks mk si sg c m (Some (Insert code)) =
    (i : ℕ) (v : Move) → m ≡ move_code v → (call_byte si (named mk i v) c ≡ closed (insert mk i v))
    × (call_items (insert mk i v) ≡ code ∷ i ∷ [])
Asks mk si sg c m None =
    (i : ℕ) (v : Move) → m ≡ move_code v → (is_still v ≡ true → (is_sign c && sg) ≡ false) → call_byte si (named mk i v) c ≡ wrong

-- behind a tag's number w, of which v is kept
abbrev pub TagFrom : List ℕ → ℕ → ℕ → List ℕ → List ℕ → ℕ → ℕ → ℕ → Ended → Type 0
TagFrom s a p old out n v k r = (w : ℕ) → v ≡ most w → (si : Site) → Ends s a p old out n 0 si k (λ pl. calling pl (tagged w)) r

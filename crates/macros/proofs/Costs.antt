-- What a part of the reader must have cost in bytes, by the shortest spelling, and what is well formed of it.
use mathlib.Core.Path.{refl, ◌∙◌, ◌≡◌}
use mathlib.Core.Bool.{Bool, false, true}
use mathlib.Core.List.{List, [], append-nil, reverse, reverse_aux, ◌∷◌}
use mathlib.Core.Option.{Option, none, some}
use Prim.Native.Nat.{◌+◌, ◌<◌, suc, ℕ, ◌≤◌}
use native.Mathlib.Omega.{arith}
use lib.ListN.{length, length-append}
use Rattle.macros.specs.Bounds.{most_entry_bytes}
use Rattle.macros.specs.Refusals.{FileRefusal}
use Rattle.macros.specs.Refusals.FileRefusal.{file_too_long, zero_byte, incomplete, bad_class, no_unit, bad_brace, bad_call, no_element, macro_too_long, too_many_macros}
use Rattle.macros.specs.Macro.{Action, Call, Mark, Member, Move, PatternUnit, Piece, among, pick, tags}
use Rattle.macros.specs.Macro.Closure.{once, one_or_more, zero_or_more}
use Rattle.macros.specs.Macro.Member.{single}
use Rattle.macros.specs.Macro.Piece.{element}
use Rattle.macros.specs.Macro.Move.{after, before, still}
use Rattle.macros.specs.Formed.{Bytes, FormedCommands, FormedMembers, FormedPattern, FormedPieces, FormedReplacement, Letter}
use Rattle.macros.specs.Read.{Front, Joinable, Last, Part, Phase, Site, CallSite, Step, may_insert, members_at_end, site_of}
use Rattle.macros.specs.ReadSoFar.Joinable.{marked, nothing, query, starred, unit}
use Rattle.macros.specs.ReadSoFar.Last.{dash, free, member}
use Rattle.macros.specs.ReadSoFar.Phase.{begun, comma, divisor, equals, increment, named, signed, tag_named, tag_signed, tagged, texted}
use Rattle.macros.specs.ReadSoFar.CallSite.{calls_so_far, commands_so_far, replacement_so_far}
use Rattle.macros.specs.ReadSoFar.Part.{await_quote, await_symbol, call_text, call_text_escape, calling, calls, commands, members, members_escape, opened, pattern, pattern_call, pattern_called, pattern_escape, replacement, replacement_escape, tag_number}
use Rattle.macros.specs.ReadSoFar.Step.{done, on, opens, stop}
use Rattle.macros.specs.Write.{byte, call_bytes, closure_bytes, digits}
use Rattle.macros.specs.Spell.{Before, behind, leaves, leaves_mark, leaves_unit, spell_action, spell_member, spell_pattern, spell_piece, spell_text, spell_unit}
use Rattle.macros.specs.Spell.Before.{a_range, a_single, bracket, tilde}
use Rattle.macros.specs.Spell.{call_text_signs}
use Rattle.macros.proofs.Readings.{settled, with_mark}

-- COSTS of what has been read, newest first, in the shortest spelling

-- what the newest piece leaves to be joined
unfoldable pub top : List Piece → Joinable
top [] = nothing
top (p ∷ ps) = leaves p

-- the pieces' bytes
unfoldable pub cost : List Piece → ℕ
cost [] = 0
cost (p ∷ ps) = cost ps + length (spell_piece (top ps) p)

pieces_onto_cost : (ps l : List Piece) → length (spell_pattern nothing (reverse_aux ps l)) ≡ cost ps + length (spell_pattern (top ps) l)
unfolding cost top spell_pattern
pieces_onto_cost [] l = omega arith
pieces_onto_cost (p ∷ ps) l = pieces_onto_cost ps (p ∷ l) ∙ omega (arith, length-append (spell_piece (top ps) p) (spell_pattern (leaves p) l))

pub pieces_cost : (ps : List Piece) → length (spell_pattern nothing (reverse ps)) ≡ cost ps
unfolding spell_pattern
pieces_cost ps = pieces_onto_cost ps [] ∙ omega arith

module _ (u : PatternUnit) (ps : List Piece) where
  pub cost_once : cost (element u once ∷ ps) ≡ cost ps + length (spell_unit (top ps) u)
  unfolding cost spell_piece closure_bytes
  cost_once = rw append-nil

  pub cost_star : cost (element u one_or_more ∷ ps) ≡ suc (cost (element u once ∷ ps))
  unfolding cost spell_piece closure_bytes
  cost_star = omega (arith, length-append (spell_unit (top ps) u) (42 ∷ []), length-append (spell_unit (top ps) u) [])

  pub cost_star_dash : cost (element u zero_or_more ∷ ps) ≡ suc (suc (cost (element u once ∷ ps)))
  unfolding cost spell_piece closure_bytes
  cost_star_dash = omega (arith, length-append (spell_unit (top ps) u) (42 ∷ 45 ∷ []), length-append (spell_unit (top ps) u) [])

-- one byte more where the next raw one might clash with what the shortest spelling holds
unfoldable pub gap : Joinable → ℕ
gap nothing = 0
gap (unit u) = 0
gap (starred u) = 1
gap query = 1
gap (marked m) = 1

-- that byte, where a part must have it in hand
unfoldable pub slack : Joinable → List Piece → ℕ
slack nothing ps = gap (top ps)
slack (unit u) ps = gap (leaves_unit u)
slack (starred u) ps = 0
slack query ps = 0
slack (marked m) ps = 0

-- the `~` of a complement
unfoldable pub negs : Bool → ℕ
negs true = 1
negs false = 0

-- what stands before the next member
unfoldable pub context : Bool → List Member → Before
context true [] = tilde
context false [] = bracket
context neg (m ∷ ms) = behind m

-- the members' bytes; is_last: whether the newest ends the class
unfoldable pub cost_members : Bool → Bool → List Member → ℕ
cost_members neg is_last [] = 0
cost_members neg is_last (m ∷ ms) = cost_members neg false ms + length (spell_member (context neg ms) is_last m)

-- as gap, for a raw member
unfoldable pub gap_class : Before → ℕ
gap_class bracket = 1
gap_class tilde = 0
gap_class a_single = 1
gap_class a_range = 0

-- the bytes that an open class must have cost, behind its `[` and `~`
unfoldable pub load_class : Bool → Last → List Member → ℕ
load_class neg free ms = cost_members neg false ms + gap_class (context neg ms)
load_class neg (member a) ms = cost_members neg false (single a ∷ ms)
load_class neg (dash a) ms = suc (cost_members neg false (single a ∷ ms))

-- the same without the slack
unfoldable pub held_class : Bool → Last → List Member → ℕ
held_class neg free ms = cost_members neg false ms
held_class neg (member a) ms = cost_members neg false (single a ∷ ms)
held_class neg (dash a) ms = suc (cost_members neg false (single a ∷ ms))

-- the same of a replacement's actions, of commands and of a call's text

unfoldable pub top_mark : List Action → Option Mark
top_mark [] = none
top_mark (p ∷ ps) = leaves_mark p

unfoldable pub cost_actions : List Action → ℕ
cost_actions [] = 0
cost_actions (p ∷ ps) = cost_actions ps + length (spell_action (top_mark ps) p)

unfoldable pub cost_calls : List Call → ℕ
cost_calls [] = 0
cost_calls (c ∷ cs) = cost_calls cs + length (call_bytes spell_text c)

unfoldable pub gap_mark : Option Mark → ℕ
gap_mark none = 0
gap_mark (some m) = 1

unfoldable pub slack_mark : Option Mark → List Action → ℕ
slack_mark (some m) ps = 0
slack_mark none ps = gap_mark (top_mark ps)

-- a move's sign
unfoldable pub moves : Move → ℕ
moves still = 0
moves (before s) = 1
moves (after s) = 1

-- a number's digits
unfoldable pub figures : Option ℕ → ℕ
figures none = 0
figures (some n) = length (digits n)

unfoldable pub cost_text : List ℕ → ℕ
cost_text [] = 0
cost_text (b ∷ t) = cost_text t + length (byte (among call_text_signs b) b)

-- the bytes that a call must have cost so far, its mark among them
unfoldable pub load_call : Phase → ℕ
load_call (begun m) = 2
load_call (signed m s) = 3
load_call (named m i h) = 3 + moves h
load_call (equals m i o) = 4 + figures o
load_call (increment i o) = 4 + figures o
load_call (divisor i o) = 4 + figures o
load_call (tagged n) = 2 + figures (some n)
load_call (comma n) = 3 + figures (some n)
load_call (tag_signed n s) = 4 + figures (some n)
load_call (tag_named n i h) = 4 + figures (some n) + moves h
load_call (texted i h t) = 5 + moves h + cost_text t

-- the bytes of what has been read from a pattern on, up to the `;`
unfoldable pub cost_body : Front → List Action → List Call → ℕ
cost_body f ps cs = cost f.pieces + 5 + cost_actions ps + cost_calls cs

-- the bytes that stand before a call; behind a pattern, those from its quote on
unfoldable pub base : CallSite → ℕ
base (calls_so_far cs) = cost_calls cs
base (replacement_so_far f ps) = cost f.pieces + 4 + cost_actions ps
base (commands_so_far f ps cs) = cost_body f ps cs

-- the bytes that a part must have cost; from the pattern on, those from its quote on
unfoldable pub load : Part → ℕ
load (calls a cs) = cost_calls cs + gap_mark a
load (pattern h ps) = suc (cost (settled h ps) + slack h ps)
load (pattern_escape ps) = cost ps + 2
load (opened ps) = cost ps + 2
load (members ps neg l ms) = cost ps + 2 + negs neg + load_class neg l ms
load (members_escape ps neg l ms) = cost ps + 3 + negs neg + held_class neg l ms
load (pattern_call m ps) = cost ps + 3
load (pattern_called m ps i) = cost ps + 4
load (await_symbol ps) = cost ps + 2
load (await_quote f) = cost f.pieces + 3
load (replacement a f ps) = cost f.pieces + 4 + cost_actions (with_mark a ps) + slack_mark a ps
load (replacement_escape f ps) = cost f.pieces + 5 + cost_actions ps
load (tag_number o f ps) = cost f.pieces + 5 + cost_actions ps + figures o
load (calling pl ph) = base pl + load_call ph
load (call_text pl i h t) = base pl + 4 + moves h + cost_text t
load (call_text_escape pl i h t) = base pl + 5 + moves h + cost_text t
load (commands a f ps cs) = cost_body f ps cs + gap_mark a

-- a whole pattern, and the actions behind it
unfoldable pub Done : Front → List Action → Type 0
Done f ps = FormedPattern f.pieces × FormedReplacement (tags f.pieces) ps

unfoldable pub FitPlace : CallSite → Type 0
FitPlace (calls_so_far cs) = FormedCommands 0 cs
FitPlace (replacement_so_far f ps) = Done f ps
FitPlace (commands_so_far f ps cs) = Done f ps × FormedCommands (tags f.pieces) cs

-- a phase of a call that stands there
unfoldable pub FitPhase : Site → Phase → Type 0
FitPhase si (begun m) = Unit {0}
FitPhase si (signed m s) = Unit {0}
FitPhase si (named m i h) = Letter i
FitPhase si (equals m i o) = Letter i
FitPhase si (increment i o) = Letter i
FitPhase si (divisor i o) = Letter i × (may_insert si ≡ true)
FitPhase si (tagged n) = Unit {0}
FitPhase si (comma n) = Unit {0}
FitPhase si (tag_signed n s) = Unit {0}
FitPhase si (tag_named n i h) = Letter i
FitPhase si (texted i h t) = Letter i × Bytes t × (length t ≤ most_entry_bytes)

-- what is well formed of what a part holds
unfoldable pub Fit : Part → Type 0
Fit (calls a cs) = FormedCommands 0 cs
Fit (pattern h ps) = FormedPieces (settled h ps)
Fit (pattern_escape ps) = FormedPieces ps
Fit (opened ps) = FormedPieces ps
Fit (members ps neg l ms) = FormedPieces ps × FormedMembers (members_at_end l ms)
Fit (members_escape ps neg l ms) = FormedPieces ps × FormedMembers (members_at_end l ms)
Fit (pattern_call m ps) = FormedPieces ps
Fit (pattern_called m ps i) = FormedPieces ps × Letter i
Fit (await_symbol ps) = FormedPattern ps
Fit (await_quote f) = FormedPattern f.pieces
Fit (replacement a f ps) = Done f (with_mark a ps)
Fit (replacement_escape f ps) = Done f ps
Fit (tag_number o f ps) = Done f ps
Fit (calling pl ph) = FitPlace pl × FitPhase (site_of pl) ph
Fit (call_text pl i h t) = FitPlace pl × Letter i × Bytes t × (length t ≤ most_entry_bytes)
Fit (call_text_escape pl i h t) = FitPlace pl × Letter i × Bytes t × (length t < most_entry_bytes)
Fit (commands a f ps cs) = Done f ps × FormedCommands (tags f.pieces) cs

-- a fault that a byte or the file's end shows: not 10 or 11, which are looked for before
abbrev pub Shows : FileRefusal → Type 0
Shows file_too_long = ⊥
Shows zero_byte = ⊥
Shows incomplete = Unit {0}
Shows bad_class = Unit {0}
Shows no_unit = Unit {0}
Shows bad_brace = Unit {0}
Shows bad_call = Unit {0}
Shows no_element = Unit {0}
Shows macro_too_long = Unit {0}
Shows too_many_macros = Unit {0}

-- a step from a part that n bytes have paid for
pub data Good (n : ℕ) : Step → Type 0 where
  fine : {st : Part} → load st ≤ suc n → Fit st → Good n (on st)
  opening : {cs : List Call} → cost_calls cs ≤ n → FormedCommands 0 cs → Good n (opens cs)
  whole : {f : Front} {ps : List Action} {cs : List Call} → cost_body f ps cs ≤ n → Done f ps → FormedCommands (tags f.pieces) cs
      → Good n (done f ps cs)
  fault : {k : FileRefusal} → Shows k → Good n (stop k)

-- a branch, by both its cases
pub either : {n : ℕ} {c : Bool} {x y : Step} → (c ≡ true → Good n x) → (c ≡ false → Good n y) → Good n (pick c x y)
unfolding pick
either {c = true} f g = f refl
either {c = false} f g = g refl

pub byte_least : (p : Bool) (b : ℕ) → 1 ≤ length (byte p b)
unfolding byte
byte_least true b = omega arith
byte_least false b = omega arith

pub byte_most : (p : Bool) (b : ℕ) → length (byte p b) ≤ 2
unfolding byte
byte_most true b = omega arith
byte_most false b = omega arith

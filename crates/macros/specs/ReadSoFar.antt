-- 01, part 2: what has been read so far of a macro. Lists are newest first.
use Rattle.std.specs.Prelude.{ℕ, Bool, List}
use Rattle.std.proofs.Math.Option.{Option}
use Prim.Native.Char.{code}
use Rattle.macros.specs.Quoted.{bytes, ◌is◌}
use Rattle.macros.specs.Refusals.{FileRefusal}
use Rattle.macros.specs.Macro.{Member, Mark, PatternUnit, Piece, Sign, Move, Call, Action, Symbol, pick, among}

-- what the next byte may still join: nothing; a unit, by `*`; a `*`, by `-`; a `?`, by a digit; a `&` or `#`, by `(`
pub data Joinable : Type 0 where
  nothing : Joinable
  unit : PatternUnit → Joinable
  starred : PatternUnit → Joinable
  query : Joinable
  marked : Mark → Joinable

-- in a class: the last member, if it may still begin a range, and a dash behind it
pub data Last : Type 0 where
  free : Last
  member : ℕ → Last
  dash : ℕ → Last

-- a pattern and its symbol
pub record Front : Type 0 where
  pub pieces : List Piece
  pub symbol : Symbol

-- the three places where a call other than a pattern's may stand
pub data Site : Type 0 where
  before_pattern in_replacement as_command : Site

-- one of them, with what has been read there: the calls, the replacement or the commands so far
pub data CallSite : Type 0 where
  calls_so_far : List Call → CallSite
  replacement_so_far : Front → List Action → CallSite
  commands_so_far : Front → List Action → List Call → CallSite

-- how far a call is, behind `&(` or `#(`
pub data Phase : Type 0 where
  -- `&(` or `#(`
  begun : Mark → Phase
  -- a sign
  signed : Mark → Sign → Phase
  -- a letter with its sign
  named : Mark → ℕ → Move → Phase
  -- `i=` and the number so far
  equals : Mark → ℕ → Option ℕ → Phase
  -- `i,` and the number so far
  increment : ℕ → Option ℕ → Phase
  -- `i:` of a counter and the number so far
  divisor : ℕ → Option ℕ → Phase
  -- a tag's number
  tagged : ℕ → Phase
  -- a tag's number and its comma
  comma : ℕ → Phase
  -- behind the comma, a sign
  tag_signed : ℕ → Sign → Phase
  -- behind the comma, a letter with its sign
  tag_named : ℕ → ℕ → Move → Phase
  -- a letter and the whole text
  texted : ℕ → Move → List ℕ → Phase

-- the open part of a macro
pub data Part : Type 0 where
  -- behind a call before a pattern, with a `&` or `#` that `(` may join
  calls : Option Mark → List Call → Part
  -- a pattern
  pattern : Joinable → List Piece → Part
  -- behind `\` in a pattern
  pattern_escape : List Piece → Part
  -- behind `[`
  opened : List Piece → Part
  -- in a class, true if it is the complement
  members : List Piece → Bool → Last → List Member → Part
  -- behind `\` in a class
  members_escape : List Piece → Bool → Last → List Member → Part
  -- behind `&(` or `#(` in a pattern
  pattern_call : Mark → List Piece → Part
  -- behind the letter of a pattern's call
  pattern_called : Mark → List Piece → ℕ → Part
  -- before the symbol
  await_symbol : List Piece → Part
  -- before the replacement
  await_quote : Front → Part
  -- a replacement, with a `&` or `#` that `(` may join
  replacement : Option Mark → Front → List Action → Part
  -- behind `\` in a replacement
  replacement_escape : Front → List Action → Part
  -- in `{n}`, with the number so far
  tag_number : Option ℕ → Front → List Action → Part
  -- in a call
  calling : CallSite → Phase → Part
  -- in a call's text
  call_text : CallSite → ℕ → Move → List ℕ → Part
  -- behind `\` in a call's text
  call_text_escape : CallSite → ℕ → Move → List ℕ → Part
  -- the commands, with a `&` or `#` that `(` may join
  commands : Option Mark → Front → List Action → List Call → Part

-- what a byte does in a macro: it goes on; opens the pattern, behind the calls before it; ends the macro, with all that was read from its
-- pattern on; or shows a fault
pub data Step : Type 0 where
  on : Part → Step
  opens : List Call → Step
  done : Front → List Action → List Call → Step
  stop : FileRefusal → Step

-- "A raw `;` or line feed may not stand there", nor a quote: 12
unfoldable pub breaks : ℕ → Bool
breaks = among (bytes "';\n")

-- "`\` .. makes the next byte literal, but `\n` is line feed and `\t` tab"
unfoldable pub escaped : ℕ → ℕ
escaped b = pick (b is "n") (code "\n") (pick (b is "t") (code "\t") b)

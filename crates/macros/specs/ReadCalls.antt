-- 01, part 2, and N2 of 02: reading a call before a pattern, in a replacement or as a command, behind `&(` or `#(`.
use Rattle.std.specs.Prelude.{ℕ, ◌+◌, ◌-◌, ◌*◌, Bool, true, false, ◌&&◌, ◌||◌, List, [], ◌∷◌, reverse, ltb, eqb, length}
use Rattle.std.proofs.Math.Option.{Option, none, some}
use Prim.Native.Char.{code}
use Rattle.macros.specs.Quoted.{◌is◌}
use Rattle.macros.specs.Bounds.{most_entry_bytes}
use Rattle.macros.specs.Refusals.FileRefusal.{incomplete, bad_call}
use Rattle.macros.specs.Macro.{Mark, Piece, Sign, Move, Call, pick, ascii_lower, digit, tags}
use Rattle.macros.specs.Macro.Mark.{stack, counter}
use Rattle.macros.specs.Macro.Sign.{plus, minus}
use Rattle.macros.specs.Macro.Move.{still, before, after}
use Rattle.macros.specs.Macro.Call.{insert, store_tag, set_to, store_text, set_increment, divide}
use Rattle.macros.specs.Macro.Action.{call}
use Rattle.macros.specs.Formed.{number_fits}
use Rattle.macros.specs.ReadSoFar.{Front, Site, CallSite, Phase, Part, Step, breaks}
use Rattle.macros.specs.ReadSoFar.Site.{before_pattern, in_replacement, as_command}
use Rattle.macros.specs.ReadSoFar.CallSite.{calls_so_far, replacement_so_far, commands_so_far}
use Rattle.macros.specs.ReadSoFar.Phase.{begun, signed, named, equals, increment, divisor, tagged, comma, tag_signed, tag_named, texted}
use Rattle.macros.specs.ReadSoFar.Part.{calls, replacement, calling, call_text, call_text_escape, commands}
use Rattle.macros.specs.ReadSoFar.Step.{on, stop}

-- "Spaces in calls are ignored"; else 12 in an open call, or 16 at the first byte that cannot be
unfoldable pub otherwise : Part → ℕ → Step
otherwise st b = pick (b is " ") (on st) (pick (breaks b) (stop incomplete) (stop bad_call))

-- "A number is one or more digits, taken by its value."
unfoldable pub and_digit : Option ℕ → ℕ → ℕ
and_digit none b = b - code "0"
and_digit (some n) b = n * 10 + (b - code "0")

-- a `+` or `-`
unfoldable pub is_sign : ℕ → Bool
is_sign b = b is "+" || b is "-"

-- which of the two
unfoldable pub sign_of : ℕ → Sign
sign_of b = pick (b is "+") plus minus

-- "one `+` or `-`": there is none yet
unfoldable pub is_still : Move → Bool
is_still still = true
is_still (before s) = false
is_still (after s) = false

-- what a byte does in a call: it goes on, begins the text, ends the call, or cannot be
pub data Turn : Type 0 where
  into : Phase → Turn
  text_of : ℕ → Move → Turn
  closed : Call → Turn
  wrong : Turn

-- the `)` behind a number: there must be one
unfoldable pub number_end : (ℕ → Call) → Option ℕ → Turn
number_end c none = wrong
number_end c (some n) = closed (c n)

-- whether a call may insert: "As commands, all but `&(i)` and `#(i)` forms."; 02, N7, of `#(i:n)`: "It may stand in a replacement only";
-- 02, N2: "`&(` or `#(` before a pattern begins a command"
unfoldable pub may_insert : Site → Bool
may_insert before_pattern = false
may_insert in_replacement = true
may_insert as_command = false

-- whether a call may store a tag; 02, N2: "Storing a tag is refused there with 16, at the number's first digit"
unfoldable pub may_store_tag : Site → Bool
may_store_tag before_pattern = false
may_store_tag in_replacement = true
may_store_tag as_command = true

-- a byte of `&(i)`, `&(n,i)`, `&(i=n)`, `&(i:text:)`, `#(i)`, `#(i=n)`, `#(i,n)`, with signs where 01 has them, or of 02's `#(i:n)`.
-- A call that may not insert has no `)` behind a letter that comes first, and no sign or `:` in a counter's call
unfoldable pub call_byte : Site → Phase → ℕ → Turn
-- behind `&(` here may stand a digit (not in a call before a pattern), a sign or a letter
call_byte si (begun stack) b =
    pick (digit b && may_store_tag si) (into (tagged (b - code "0")))
    (pick (is_sign b) (into (signed stack (sign_of b))) (pick (ascii_lower b) (into (named stack b still)) wrong))
-- behind `#(` here may stand a sign, if it may insert, or a letter
call_byte si (begun counter) b =
    pick (is_sign b && may_insert si) (into (signed counter (sign_of b))) (pick (ascii_lower b) (into (named counter b still)) wrong)
-- behind a sign here may stand a letter
call_byte si (signed m s) b = pick (ascii_lower b) (into (named m b (before s))) wrong
-- behind `&(i` here may stand `)`, if it may insert, or `:`; without a sign also `=` or a sign
call_byte si (named stack i v) b =
    pick (b is ")" && may_insert si) (closed (insert stack i v))
    (pick (b is ":") (text_of i v)
    (pick (b is "=" && is_still v) (into (equals stack i none))
    (pick (is_sign b && is_still v) (into (named stack i (after (sign_of b)))) wrong)))
-- behind `#(i` here may stand `)`, if it may insert; without a sign also `,`, `=` or, if it may insert, `:` or a sign
call_byte si (named counter i v) b =
    pick (b is ")" && may_insert si) (closed (insert counter i v))
    (pick (b is "," && is_still v) (into (increment i none))
    (pick (b is "=" && is_still v) (into (equals counter i none))
    (pick (b is ":" && (is_still v && may_insert si)) (into (divisor i none))
    (pick (is_sign b && (is_still v && may_insert si)) (into (named counter i (after (sign_of b)))) wrong))))
-- behind `i=` here may stand a digit or, behind one, `)`
call_byte si (equals m i o) b =
    pick (digit b) (into (equals m i (some (and_digit o b)))) (pick (b is ")") (number_end (set_to m i) o) wrong)
-- behind `#(i,` here may stand a digit or, behind one, `)`
call_byte si (increment i o) b =
    pick (digit b) (into (increment i (some (and_digit o b)))) (pick (b is ")") (number_end (set_increment i) o) wrong)
-- behind `#(i:` here may stand a digit or, behind one, `)`
call_byte si (divisor i o) b =
    pick (digit b) (into (divisor i (some (and_digit o b)))) (pick (b is ")") (number_end (divide i) o) wrong)
-- behind `&(n` here may stand a digit or `,`
call_byte si (tagged n) b = pick (digit b) (into (tagged (and_digit (some n) b))) (pick (b is ",") (into (comma n)) wrong)
-- behind `&(n,` here may stand a sign or a letter
call_byte si (comma n) b = pick (is_sign b) (into (tag_signed n (sign_of b))) (pick (ascii_lower b) (into (tag_named n b still)) wrong)
-- behind `&(n,` and a sign here may stand a letter
call_byte si (tag_signed n s) b = pick (ascii_lower b) (into (tag_named n b (before s))) wrong
-- behind `&(n,i` here may stand `)` or, without a sign, a sign
call_byte si (tag_named n i v) b =
    pick (b is ")") (closed (store_tag n i v)) (pick (is_sign b && is_still v) (into (tag_named n i (after (sign_of b)))) wrong)
-- behind `&(i:text:` here may stand `)`
call_byte si (texted i v t) b = pick (b is ")") (closed (store_text i v (reverse t))) wrong

-- where a call stands
unfoldable pub site_of : CallSite → Site
site_of (calls_so_far cs) = before_pattern
site_of (replacement_so_far f as₁) = in_replacement
site_of (commands_so_far f as₁ cs) = as_command

-- the pieces of the pattern that stands before a call
unfoldable pub pieces_of : CallSite → List Piece
pieces_of (calls_so_far cs) = []
pieces_of (replacement_so_far f as₁) = f.pieces
pieces_of (commands_so_far f as₁ cs) = f.pieces

-- behind a call
unfoldable pub behind_call : CallSite → Call → Part
behind_call (calls_so_far cs) c = calls none (c ∷ cs)
behind_call (replacement_so_far f as₁) c = replacement none f (call c ∷ as₁)
behind_call (commands_so_far f as₁ cs) c = commands none f as₁ (c ∷ cs)

-- what a byte of a call comes to: 16 at the `)` if a number is out of range
unfoldable pub turned : CallSite → Phase → ℕ → Turn → Step
turned pl ph b (into ph') = on (calling pl ph')
turned pl ph b (text_of i v) = on (call_text pl i v [])
turned pl ph b (closed c) = pick (number_fits (tags (pieces_of pl)) c) (on (behind_call pl c)) (stop bad_call)
turned pl ph b wrong = otherwise (calling pl ph) b

-- "`&(i:text:)` stores text", at most 100 bytes (02, N6), by the old engine at most 50 (`longest`), "ended by the first `:` without `\`"
-- 12 at a raw quote, `;` or line feed, 16 at the byte behind the longest text
unfoldable pub text_byte_by : (longest : ℕ) → CallSite → ℕ → Move → List ℕ → ℕ → Step
text_byte_by longest pl i v t b =
    pick (b is ":") (on (calling pl (texted i v t)))
    (pick (breaks b) (stop incomplete)
    (pick (ltb (length t) longest) (pick (b is "\\") (on (call_text_escape pl i v t)) (on (call_text pl i v (b ∷ t)))) (stop bad_call)))

-- with texts of at most 100 bytes
abbrev pub text_byte : CallSite → ℕ → Move → List ℕ → ℕ → Step
text_byte = text_byte_by most_entry_bytes

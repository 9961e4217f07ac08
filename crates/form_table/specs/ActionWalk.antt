-- The walk over the items of a replacement, or of commands (those before a pattern are such too): what no form has is refused, and the
-- shortest spelling's bytes are counted.
use Rattle.std.specs.Prelude.{ℕ, ◌+◌, ◌-◌, ◌*◌, ◌/◌, ◌%◌, Bool, true, false, not, ◌&&◌, ◌||◌, [], ◌∷◌, eqb, ltb, leb}
use Rattle.std.proofs.Math.Option.{Option, none, some}
use Rattle.macros.specs.Bounds.{most_entry_bytes}
use Rattle.macros.specs.Macro.{Move, Call, pick, among, within, ascii_lower}
use Rattle.macros.specs.Macro.Mark.{stack, counter}
use Rattle.macros.specs.Macro.Sign.{plus, minus}
use Rattle.macros.specs.Macro.Move.{still, before, after}
use Rattle.macros.specs.Macro.Call.{insert, store_tag, set_to, store_text, set_increment, divide}
use Rattle.macros.specs.Spell.{text_signs, call_text_signs}
use Rattle.macros.specs.Read.{is_still}
use Rattle.macros.specs.Formed.{limit}
use Rattle.form_table.specs.Walk.{given, bit}

-- WHERE THE WALK STANDS

-- behind an action, true if that is a bare `&` or `#`; in a call, with its tag, its text's length or so many of its text's bytes to come,
-- or its number, at most l: both halves of it, or the high one, v being the low
pub data ActionSpot : Type 0 where
  behind_action : Bool → ActionSpot
  tag_due length_due : ActionSpot
  text_due : ℕ → ActionSpot
  low_due : (l : ℕ) → ActionSpot
  high_due : (l v : ℕ) → ActionSpot

-- the bytes spelled so far
pub data ActionState : Type 0 where
  action_at : (spelled : ℕ) → ActionSpot → ActionState

-- LENGTHS

-- the digits of a number below 1,000,000,000
unfoldable pub figures : ℕ → ℕ
figures n =
    pick (ltb n 10) 1 (pick (ltb n 100) 2 (pick (ltb n 1000) 3 (pick (ltb n 10000) 4 (pick (ltb n 100000) 5
    (pick (ltb n 1000000) 6 (pick (ltb n 10000000) 7 (pick (ltb n 100000000) 8 9)))))))

-- the bytes of a `+` or `-`
unfoldable pub move_length : Move → ℕ
move_length still = 0
move_length (before s) = 1
move_length (after s) = 1

-- a literal of a replacement with the `\` that it needs, behind a bare `&` or `#` or not
unfoldable pub literal_length : Bool → ℕ → ℕ
literal_length a b = 1 + bit (among text_signs b || eqb b 40 && a)

-- a byte of a call's text with the `\` that it needs
unfoldable pub text_length : ℕ → ℕ
text_length b = 1 + bit (among call_text_signs b)

-- CALLS

-- the move of a code
unfoldable pub move_of : ℕ → Option Move
move_of k =
    pick (eqb k 0) (some still)
    (pick (eqb k 1) (some (before plus)) (pick (eqb k 2) (some (before minus))
    (pick (eqb k 3) (some (after plus)) (pick (eqb k 4) (some (after minus)) none))))

-- the call of a code, a letter and a move, its number or text still to come
unfoldable pub call_as : ℕ → ℕ → Move → Option Call
call_as c i v =
    pick (eqb c 6) (some (insert stack i v))
    (pick (eqb c 7) (some (insert counter i v))
    (pick (eqb c 8) (some (store_tag 0 i v))
    (pick (eqb c 9) (some (store_text i v []))
    (pick (eqb c 10) (given (is_still v) (set_to stack i 0))
    (pick (eqb c 11) (given (is_still v) (set_to counter i 0))
    (pick (eqb c 12) (given (is_still v) (set_increment i 0))
    (pick (eqb c 13) (given (is_still v) (divide i 0)) none)))))))

-- behind the first item of a call; cmd: as a command
unfoldable pub call_at : (cmd : Bool) → (n : ℕ) → Call → Option ActionState
call_at cmd n (insert m i v) = given (not cmd) (action_at (n + 4 + move_length v) (behind_action false))
call_at cmd n (store_tag t i v) = some (action_at (n + 5 + move_length v) tag_due)
call_at cmd n (store_text i v t) = some (action_at (n + 6 + move_length v) length_due)
call_at cmd n (set_to m i k) = some (action_at (n + 5) (low_due (limit m)))
call_at cmd n (set_increment i k) = some (action_at (n + 5) (low_due (limit counter)))
call_at cmd n (divide i k) = given (not cmd) (action_at (n + 5) (low_due (limit counter)))

-- a call, if its code is some
unfoldable pub called_step : (cmd : Bool) → (n : ℕ) → Option Call → Option ActionState
called_step cmd n none = none
called_step cmd n (some c) = call_at cmd n c

-- a call, if its move's code is some and its letter is one
unfoldable pub call_step : (cmd : Bool) → (n c o : ℕ) → Option Move → Option ActionState
call_step cmd n c o none = none
call_step cmd n c o (some v) = pick (ascii_lower o) (called_step cmd n (call_as c o v)) none

-- STEPS

-- a literal, `{o}` or the first item of a call
unfoldable pub begin_step : (cmd : Bool) → (k n : ℕ) → Bool → (c o : ℕ) → Option ActionState
begin_step cmd k n a c o =
    pick (eqb c 40) (given (not cmd && within 1 255 o) (action_at (n + literal_length a o) (behind_action (eqb o 38 || eqb o 35))))
    (pick (eqb c 41) (given (not cmd && within 1 k o) (action_at (n + 2 + figures o) (behind_action false)))
    (call_step cmd n (c / 8) o (move_of (c % 8))))

-- so many bytes of a text to come
unfoldable pub text_spot : ℕ → ActionSpot
text_spot q = pick (eqb q 0) (behind_action false) (text_due q)

-- two bytes of a text, or its last and a zero
unfoldable pub text_step : (n q c o : ℕ) → Option ActionState
text_step n q c o =
    pick (eqb q 1) (given (within 1 255 c && eqb o 0) (action_at (n + text_length c) (behind_action false)))
    (given (within 1 255 c && within 1 255 o) (action_at (n + text_length c + text_length o) (text_spot (q - 2))))

-- the high half of a number of at most l
unfoldable pub high_step : (n l w : ℕ) → Option ActionState
high_step n l w = given (within 1 l w) (action_at (n + figures w) (behind_action false))

-- the items of a replacement, or of commands, where k tags may be named
unfoldable pub action_step : (cmd : Bool) → (k : ℕ) → ActionState → ℕ → ℕ → Option ActionState
action_step cmd k (action_at n (behind_action a)) c o = begin_step cmd k n a c o
action_step cmd k (action_at n tag_due) c o = given (eqb c 42 && within 1 k o) (action_at (n + figures o) (behind_action false))
action_step cmd k (action_at n length_due) c o = given (eqb c 43 && leb o most_entry_bytes) (action_at n (text_spot o))
action_step cmd k (action_at n (text_due q)) c o = text_step n q c o
action_step cmd k (action_at n (low_due l)) c o = some (action_at n (high_due l (c + 256 * o)))
action_step cmd k (action_at n (high_due l v)) c o = high_step n l (v + 65536 * c + 16777216 * o)

-- behind n bytes spelled
unfoldable pub action_start : ℕ → ActionState
action_start n = action_at n (behind_action false)

-- at the end no call is open
unfoldable pub action_ends : ActionState → Bool
action_ends (action_at n (behind_action a)) = true
action_ends (action_at n tag_due) = false
action_ends (action_at n length_due) = false
action_ends (action_at n (text_due q)) = false
action_ends (action_at n (low_due l)) = false
action_ends (action_at n (high_due l v)) = false

-- the bytes spelled
unfoldable pub action_spelled : ActionState → ℕ
action_spelled (action_at n at) = n

-- 01, refusal 1, decided: whether bytes are the form of an accepted table.
use Rattle.std.specs.Prelude.{ℕ, zero, suc, ◌+◌, ◌*◌, ◌≡◌, Bool, true, false, ◌&&◌, List, ◌↔◌, eqb, leb, length, get_or, take, drop}
use Rattle.std.proofs.Math.Option.{Option, none, some}
use Rattle.form_bytes.specs.Zeros.{all_zero}
use Rattle.macros.specs.Bounds.{most_macros, most_macro_bytes}
use Rattle.macros.specs.Macro.{Table, within}
use Rattle.macros.specs.Formed.{Octets}
use Rattle.macros.specs.Accepted.{Accepted}
use Rattle.form_table.specs.Form.{slot_bytes, header_bytes, body_bytes, table_bytes, form}
use Rattle.form_table.specs.Walk.{walk}
use Rattle.form_table.specs.PatternWalk.{PatternState, pattern_step, pattern_start, pattern_ends, pattern_spelled}
use Rattle.form_table.specs.ActionWalk.{ActionState, action_step, action_start, action_ends, action_spelled}

-- A MACRO'S ITEMS: pattern, replacement, commands and the calls before the pattern, walked over one after the other (the order does not
-- matter for what is counted); t is the header's tags

-- no call is open, and the shortest spelling has at most 512 bytes
unfoldable pub after_calls : Option ActionState → Bool
after_calls none = false
after_calls (some st) = action_ends st && leb (action_spelled st) most_macro_bytes

-- the calls before the pattern go on from the bytes spelled so far: commands, that have no tag to store (Formed)
unfoldable pub after_commands : (bs : List ℕ) → Option ActionState → Bool
after_commands bs none = false
after_commands bs (some st) = action_ends st && after_calls (walk (action_step true 0) (action_start (action_spelled st)) bs)

-- the commands go on from the bytes spelled so far
unfoldable pub after_replacement : (t : ℕ) → (cs bs : List ℕ) → Option ActionState → Bool
after_replacement t cs bs none = false
after_replacement t cs bs (some st) = action_ends st && after_commands bs (walk (action_step true t) (action_start (action_spelled st)) cs)

-- the replacement goes on from the bytes spelled so far
unfoldable pub after_pattern : (t : ℕ) → (rs cs bs : List ℕ) → Option PatternState → Bool
after_pattern t rs cs bs none = false
after_pattern t rs cs bs (some st) =
    pattern_ends t st && after_replacement t cs bs (walk (action_step false t) (action_start (pattern_spelled st)) rs)

-- the items of the calls before a pattern, a pattern, a replacement and commands
unfoldable pub items_fit : (t : ℕ) → (bs ps rs cs : List ℕ) → Bool
items_fit t bs ps rs cs = after_pattern t rs cs bs (walk pattern_step pattern_start ps)

-- A SLOT

-- the number in the two bytes at a place
unfoldable pub two_at : List ℕ → ℕ → ℕ
two_at s p = get_or s p 0 + 256 * get_or s (suc p) 0

-- the items at a place of a slot's body, n bytes of them
unfoldable pub items_at : (s : List ℕ) → (at n : ℕ) → List ℕ
items_at s at n = take n (drop (header_bytes + at) s)

-- the parts have b, p, r and c bytes
unfoldable pub parts_fit : (s : List ℕ) → (b p r c : ℕ) → Bool
parts_fit s b p r c =
    leb (b + p + r + c) body_bytes
    && (all_zero (drop (header_bytes + b + p + r + c) s)
    && items_fit (get_or s 1 0) (items_at s 0 b) (items_at s b p) (items_at s (b + p) r) (items_at s (b + p + r) c))

-- a slot in use: its symbol is 1 or 2, and its parts fit
unfoldable pub slot_fits : List ℕ → Bool
slot_fits s = within 1 2 (get_or s 0 0) && parts_fit s (two_at s 2) (two_at s 4) (two_at s 6) (two_at s 8)

-- A TABLE

-- k slots: a slot that begins with 0 is unused, and from there on all is zero
unfoldable pub slots_fit : ℕ → List ℕ → Bool
slots_fit zero b = true
slots_fit (suc k) b = elim (eqb (get_or b 0 0) 0) [ true ↦ all_zero b | false ↦ slot_fits (take slot_bytes b) && slots_fit k (drop slot_bytes b) ]

-- 98,304 bytes, in 96 slots
unfoldable pub checks : List ℕ → Bool
checks b = eqb (length b) table_bytes && slots_fit most_macros b

-- Bytes are the form of an accepted table exactly if they pass the check.
-- It rules out must-fail/check_512, check_dash_last, check_escaped_one, check_padding and check_zero_tail.
abbrev pub CheckExact : Type 0
CheckExact = (b : List ℕ) → Octets b → (checks b ≡ true) ↔ ((ms : Table) × Accepted ms × (form ms ≡ b))

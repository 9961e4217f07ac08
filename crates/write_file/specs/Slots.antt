-- What a slot and a table are written out as.
use Rattle.std.specs.Prelude.{Result, Ok, Err, ℕ, suc, ◌+◌, ◌-◌, ◌%◌, ◌≤◌, ◌≡◌, List, [], ◌∷◌, ◌++◌, leb, ltb, eqb, length, get_or, take, drop, replicate}
use Rattle.macros.specs.Bounds.{most_file_bytes, most_macro_bytes}
use Rattle.macros.specs.Macro.{Macro, Table, pick}
use Rattle.macros.specs.Refusals.{FileRefusal}
use Rattle.macros.specs.Refusals.FileRefusal.{file_too_long, macro_too_long}
use Rattle.macros.specs.Write.{Written, written, write_from, write_out}
use Rattle.macros.specs.Write.Written.{refused}
use Rattle.macros.specs.Accepted.{Accepted}
use Rattle.form_table.specs.Check.{two_at}
use Rattle.form_table.specs.Form.{form, header_bytes, slot_bytes}
use Rattle.write_pattern.specs.Items.{pattern_text}
use Rattle.write_actions.specs.Items.{actions_text, Whole}
use Rattle.write_file.specs.declared.WritingFault.{WritingFault}
use Rattle.write_file.specs.declared.WritingFault.TheVariants.{MacroTooLong, FileTooLong}
use Rattle.write_file.specs.declared.WriteError.{WriteError}

-- where the calls before the pattern, the pattern, the replacement and the commands end
unfoldable pub before_end : List ℕ → ℕ
before_end s = header_bytes + two_at s 2

unfoldable pub pattern_end : List ℕ → ℕ
pattern_end s = before_end s + two_at s 4

unfoldable pub replacement_end : List ℕ → ℕ
replacement_end s = pattern_end s + two_at s 6

unfoldable pub commands_end : List ℕ → ℕ
commands_end s = replacement_end s + two_at s 8

unfoldable pub symbol_byte : ℕ → ℕ
symbol_byte c = pick (eqb c 1) 60 61

-- the bytes from a to e
unfoldable pub part : ℕ → ℕ → List ℕ → List ℕ
part a e s = take (e - a) (drop a s)

-- the calls before the pattern
unfoldable pub before_text : List ℕ → List ℕ
before_text s = actions_text 0 (part header_bytes (before_end s) s)

-- the pattern in quotes, and the symbol
unfoldable pub left_text : List ℕ → List ℕ
left_text s = 39 ∷ (pattern_text 0 (part (before_end s) (pattern_end s) s) ++ (39 ∷ symbol_byte (get_or s 0 0) ∷ []))

-- the replacement in quotes, the commands and `;`
unfoldable pub right_text : List ℕ → List ℕ
right_text s =
    39 ∷ (actions_text 0 (part (pattern_end s) (replacement_end s) s)
    ++ (39 ∷ (actions_text 0 (part (replacement_end s) (commands_end s) s) ++ (59 ∷ []))))

-- the macro of a slot, from its first call or quote to its `;`
unfoldable pub slot_text : List ℕ → List ℕ
slot_text s = before_text s ++ (left_text s ++ right_text s)

-- the parts of a slot are whole
pub record Parts (s : List ℕ) : Type 0 where
  pub size : length s ≡ slot_bytes
  pub fits : commands_end s ≤ slot_bytes
  pub even : two_at s 4 % 2 ≡ 0
  pub before : Whole (part header_bytes (before_end s) s)
  pub replacement : Whole (part (pattern_end s) (replacement_end s) s)
  pub commands : Whole (part (replacement_end s) (commands_end s) s)

-- 01's refusal for each fault
abbrev pub refusal_of : WritingFault → FileRefusal
refusal_of MacroTooLong = macro_too_long
refusal_of FileTooLong = file_too_long

-- the file's length, or a refusal with its place
abbrev pub Outcome : Type 0
Outcome = Result ℕ WriteError

abbrev pub no_file : WritingFault → ℕ → Outcome
no_file f p = Err (record { fault = f; place = p })

-- where a macro that begins at n has its 513th byte, or the file its 32,769th
unfoldable pub limit_of : ℕ → ℕ
limit_of n = pick (leb n 32256) (n + most_macro_bytes) most_file_bytes

unfoldable pub fault_of : ℕ → WritingFault
fault_of n = pick (leb n 32256) MacroTooLong FileTooLong

-- the answer for a macro that begins at start, with its limit, and ends at n, or behind its line feed at end
unfoldable pub answer_of : ℕ → ℕ → ℕ → ℕ → Outcome
answer_of start limit n end =
    pick (ltb limit n) (no_file (fault_of start) limit) (pick (ltb most_file_bytes end) (no_file FileTooLong most_file_bytes) (Ok end))

-- a macro's bytes; 513 stand for any more than 512
unfoldable pub capped : ℕ → ℕ
capped n = pick (ltb most_macro_bytes n) (suc most_macro_bytes) n

-- what comes of the macros behind a macro with this answer
abbrev pub onward : List ℕ → Table → Outcome → Written
onward new ms (Ok k) = write_from (take k new) ms
onward new ms (Err e) = refused (refusal_of e.fault) e.place

-- a place in the file
abbrev pub Within : Outcome → Type 0
Within (Ok k) = k ≤ most_file_bytes
Within (Err e) = Unit {0}

-- one macro, with its line feed, behind the first n of the file
pub record Adds (old : List ℕ) (n : ℕ) (text new : List ℕ) (r : Outcome) : Type 0 where
  pub comes : (m : Macro) (ms : Table) → written m ≡ text → write_from (take n old) (m ∷ ms) ≡ onward new ms r
  pub within : Within r

-- the form of an accepted table
abbrev pub Holds : List ℕ → Table → Type 0
Holds t ms = Accepted ms × (form ms ≡ t)

-- the whole table
pub record Lists (t new : List ℕ) (r : Outcome) : Type 0 where
  pub comes : (ms : Table) → Holds t ms → write_out ms ≡ onward new [] r
  pub within : Within r

-- the first n bytes of the file, and zeros
unfoldable pub padded : ℕ → List ℕ → List ℕ
padded n s = take n s ++ replicate (most_file_bytes - n) 0

-- What the computed cases of reading, writing out and spelling are made of. The cases stand in ReadingCases, WritingCases and BoundCases.
use Rattle.std.specs.Prelude.{◌≡◌, ℕ, ◌+◌, ◌&&◌, List, [], ◌∷◌, ◌++◌, eqb, length, replicate}
use Prim.Native.String.{String}
use Prim.Native.Char.{Char, code}
use Rattle.macros.specs.Macro.{Table, pick, among, within, ascii_upper, ascii_lower, digit, is_range, mark_byte, tags, elements, depth}
pub use Rattle.macros.specs.Quoted.{bytes}
use Rattle.macros.specs.Bounds.{old_entry_bytes}
use Rattle.macros.specs.Formed.{limit, number_fits}
use Rattle.macros.specs.Refusals.{host_number, line_number, file_number, work_number, number, place}
use Rattle.macros.specs.Read.{Read, breaks, escaped, signs, kind_digit, hold, pattern_end, sign, fresh, closes, pattern_byte}
use Rattle.macros.specs.Read.{new_member, members_at_end, class_end, dashes, dashed, members_byte, opened_byte, otherwise, and_digit, is_sign}
use Rattle.macros.specs.Read.{sign_of, is_still, number_end, may_insert, may_store_tag, call_byte, site_of, pieces_of, behind_call, turned}
use Rattle.macros.specs.Read.{text_byte_by, tag_end, tag_byte, replacement_fresh, replacement_byte, calls_fresh, calls_byte, symbol_byte}
use Rattle.macros.specs.Read.{quote_byte, commands_fresh, commands_byte, part_byte_by, skips, count, macro_of, taken, outside_fresh, first_call}
use Rattle.macros.specs.Read.{outside, further, step_by, at_end, read_from_by, first_zero, read_onto_by, read_file, read_file_by}
use Rattle.macros.specs.Write.{Written, pattern_marks, class_marks, text_marks, escape_byte, byte, digits_by, digits, write_member}
use Rattle.macros.specs.Write.{write_members, write_unit, closure_bytes, write_piece, write_pattern, sign_byte, name_bytes, write_text}
use Rattle.macros.specs.Write.{mark_of, inner_bytes, call_bytes, write_action, write_replacement, commands_bytes, symbol_sign, written}
use Rattle.macros.specs.Write.{write_from, write_out}
use Rattle.macros.specs.Spell.{joins, needs, leaves_unit, leaves, joins_class, needs_class, none?, behind, spell_member, spell_members}
use Rattle.macros.specs.Spell.{spell_unit, spell_piece, spell_pattern, spell_text, is_mark, needs_text, mark_in, leaves_mark, spell_action}
use Rattle.macros.specs.Spell.{spell_replacement, shortest}
use Rattle.macros.specs.ReadFile.Read.{refused_at, table}
use Rattle.macros.specs.Write.Written.{file, refused}

-- opens Macro and Formed
unfoldable pub opens_tests : ℕ
unfolding pick among within ascii_upper ascii_lower digit is_range mark_byte tags elements depth limit number_fits
opens_tests = 0

-- opens Refusals
unfoldable pub opens_numbers : ℕ
unfolding host_number line_number file_number work_number number place
opens_numbers = 0

-- opens ReadSoFar and ReadPattern
unfoldable pub opens_pattern : ℕ
unfolding breaks escaped signs kind_digit hold pattern_end sign fresh closes pattern_byte
opens_pattern = 0

-- opens ReadClass
unfoldable pub opens_class : ℕ
unfolding new_member members_at_end class_end dashes dashed members_byte opened_byte
opens_class = 0

-- opens ReadCalls
unfoldable pub opens_calls : ℕ
unfolding otherwise and_digit is_sign sign_of is_still number_end may_insert may_store_tag call_byte site_of pieces_of behind_call turned text_byte_by
opens_calls = 0

-- opens ReadReplacement and ReadParts
unfoldable pub opens_parts : ℕ
unfolding tag_end tag_byte replacement_fresh replacement_byte calls_fresh calls_byte symbol_byte quote_byte commands_fresh commands_byte part_byte_by
    skips
opens_parts = 0

-- opens ReadFile
unfoldable pub opens_file : ℕ
unfolding count macro_of taken outside_fresh first_call outside further step_by at_end read_from_by first_zero read_onto_by read_file_by
opens_file = 0

-- opens Write: marks and numbers
unfoldable pub opens_written : ℕ
unfolding pattern_marks class_marks text_marks escape_byte byte digits_by digits
opens_written = 0

-- opens Write: a pattern
unfoldable pub opens_written_pattern : ℕ
unfolding write_member write_members write_unit closure_bytes write_piece write_pattern
opens_written_pattern = 0

-- opens Write: calls and a replacement
unfoldable pub opens_written_calls : ℕ
unfolding sign_byte name_bytes write_text mark_of inner_bytes call_bytes write_action write_replacement commands_bytes
opens_written_calls = 0

-- opens Write: a macro and a file
unfoldable pub opens_written_file : ℕ
unfolding symbol_sign written write_from write_out
opens_written_file = 0

-- opens Spell: a pattern
unfoldable pub opens_spelled : ℕ
unfolding joins needs leaves_unit leaves joins_class needs_class none? behind spell_member spell_members spell_unit spell_piece spell_pattern
opens_spelled = 0

-- opens Spell: a macro
unfoldable pub opens_spelled_macro : ℕ
unfolding spell_text is_mark needs_text mark_in leaves_mark spell_action spell_replacement shortest
opens_spelled_macro = 0

-- opens reading
unfoldable pub opens_reading : ℕ
unfolding opens_tests opens_numbers opens_pattern opens_class opens_calls opens_parts opens_file
opens_reading = 0

-- opens writing out and spelling
unfoldable pub opens_writing : ℕ
unfolding opens_written opens_written_pattern opens_written_calls opens_written_file opens_spelled opens_spelled_macro
opens_writing = 0

-- opens all definitions, for a computed case
unfoldable pub everything : ℕ
unfolding opens_reading opens_writing
everything = 0

-- a refusal's number and place
abbrev pub shown : Read → ℕ × ℕ
shown (refused_at r p) = (file_number r, p)
shown (table ms) = (0, length ms)

-- the first macro's shortest spelling
abbrev pub shortened : Read → List ℕ
shortened (refused_at r p) = []
shortened (table []) = []
shortened (table (m ∷ ms)) = shortest m

-- a macro of n + 7 bytes that is written with n + 7
abbrev pub sized : ℕ → List ℕ
sized n = bytes "'a'='" ++ (replicate n 98 ++ bytes "';")

-- a text, n copies of a byte, a text
abbrev pub stretched : String → ℕ → Char → String → List ℕ
stretched s n c t = bytes s ++ (replicate n (code c) ++ bytes t)

-- number and place of such a file as the old engine reads it (02, N6)
abbrev pub old_shown : String → ℕ → Char → String → ℕ × ℕ
old_shown s n c t = shown (read_file_by old_entry_bytes (stretched s n c t))

infix 30 ◌is◌at◌
infix 30 ◌becomes◌
infix 30 ◌shortens_to◌
infix 30 ◌skips◌
-- a file beside what it comes to; in a string `\\` is one `\`
pub data Case : Type 0 where
  -- refused with the number n, at place p
  ◌is◌at◌ : (s : String) → (n p : ℕ) → Case
  -- taken, and written out as the text t and a line feed
  ◌becomes◌ : (s t : String) → Case
  -- taken; the shortest spelling of its first macro is t
  ◌shortens_to◌ : (s t : String) → Case
  -- skips count before a byte of s, and at its end, where t has `/`
  ◌skips◌ : (s t : String) → Case
  -- s, k copies of a byte and t: refused with the number n at place p; or taken, n being 0 and p the macros
  long : (s : String) → (k : ℕ) → Char → (t : String) → (n p : ℕ) → Case

-- number, place and text
abbrev pub Outcome : Type 0
Outcome = ℕ × ℕ × List ℕ

-- what a file comes to that is read and written out again
abbrev pub written_again : Read → Outcome
written_again (refused_at r p) = (file_number r, p, [])
written_again (table ms) = elim (write_out ms) [ file s ↦ (0, 0, s) | refused r p ↦ (file_number r, p, []) ]

-- `/` if skips count behind the bytes u (SkipsCount of Skips.antt), else `-`
abbrev pub skip_mark : List ℕ → ℕ
skip_mark u =
    let r : ℕ × ℕ = shown (read_file (u ++ bytes "/; ")) in
    pick (eqb r.0 12 && eqb r.1 (length u + 3)) (code "/") (code "-")

-- the marks behind the bytes u, and behind each byte that follows
abbrev pub skip_marks : List ℕ → List ℕ → List ℕ
skip_marks u [] = skip_mark u ∷ []
skip_marks u (b ∷ s) = skip_mark u ∷ skip_marks (u ++ (b ∷ [])) s

-- what is computed
abbrev pub computed : Case → Outcome
computed (s is n at p) = ((shown (read_file (bytes s))).0, (shown (read_file (bytes s))).1, [])
computed (s becomes t) = written_again (read_file (bytes s))
computed (s shortens_to t) = (0, 0, shortened (read_file (bytes s)))
computed (s skips t) = (0, 0, skip_marks [] (bytes s))
computed (long s k c t n p) = ((shown (read_file (stretched s k c t))).0, (shown (read_file (stretched s k c t))).1, [])

-- what is claimed
abbrev pub claimed : Case → Outcome
claimed (s is n at p) = (n, p, [])
claimed (s becomes t) = (0, 0, bytes t ++ (10 ∷ []))
claimed (s shortens_to t) = (0, 0, bytes t)
claimed (s skips t) = (0, 0, bytes t)
claimed (long s k c t n p) = (n, p, [])

-- what each case comes to
abbrev pub each : (Case → Outcome) → List Case → List Outcome
each f [] = []
each f (c ∷ cs) = f c ∷ each f cs

-- every case of the list comes out as claimed
abbrev pub Hold : List Case → Type 0
Hold cs = each computed cs ≡ each claimed cs

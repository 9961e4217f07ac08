-- Cases of the bounds of a macro file (01, "Bounds"), computed.
use Rattle.std.specs.Prelude.{◌≡◌, refl, ℕ, zero, suc, List, [], ◌∷◌, ◌++◌, replicate}
use Rattle.macros.specs.Bounds.{most_file_bytes, most_macros, most_macro_bytes, most_tags, most_line_bytes, letters}
use Rattle.macros.specs.Bounds.{most_entries, most_entry_bytes, old_entry_bytes, most_counter, most_budget}
use Rattle.macros.specs.Refusals.{host_number, line_number, file_number, work_number, place}
use Rattle.macros.specs.Refusals.HostRefusal.{bad_memory, bad_table, bad_state, budget_too_large}
use Rattle.macros.specs.Refusals.LineRefusal.{line_too_long, bad_byte, bad_control}
use Rattle.macros.specs.Refusals.FileRefusal.{file_too_long, zero_byte, incomplete, bad_class, no_unit}
use Rattle.macros.specs.Refusals.FileRefusal.{bad_brace, bad_call, no_element, macro_too_long, too_many_macros}
use Rattle.macros.specs.Refusals.WorkRefusal.{budget_used_up, new_line_too_long, tag_too_long, pointer_too_high, counter_too_high}
use Rattle.macros.specs.Refusals.Refusal.{of_host, of_line, of_file, of_work}
use Rattle.macros.specs.Read.{read_file, read_onto}
use Rattle.macros.specs.ReadFile.Read.{refused_at, table}
use Rattle.macros.specs.Cases.{everything, bytes, shown, sized}

-- 01's bounds: file, macros, a macro's bytes, tags, line; stacks, their entries, an entry's bytes (02, N6), the old ones, counters, budget
pub bound_numbers :
    (most_file_bytes ∷ most_macros ∷ most_macro_bytes ∷ most_tags ∷ most_line_bytes ∷ [] ≡ 32768 ∷ 96 ∷ 512 ∷ 99 ∷ 1054 ∷ []) ×
    (letters ∷ most_entries ∷ most_entry_bytes ∷ old_entry_bytes ∷ most_counter ∷ most_budget ∷ []
    ≡ 26 ∷ 20 ∷ 100 ∷ 50 ∷ 999999999 ∷ 1000000 ∷ [])
bound_numbers = (refl, refl)

-- 01's numbers of refusals, in its order: the host, whoever sends the line, the table writer, the table at work
pub refusal_numbers :
    (host_number bad_memory ∷ host_number bad_table ∷ host_number bad_state ∷ host_number budget_too_large ∷ [] ≡ 3 ∷ 1 ∷ 2 ∷ 4 ∷ []) ×
    (line_number line_too_long ∷ line_number bad_byte ∷ line_number bad_control ∷ [] ≡ 21 ∷ 22 ∷ 23 ∷ []) ×
    (file_number file_too_long ∷ file_number zero_byte ∷ file_number incomplete ∷ file_number bad_class ∷ file_number no_unit ∷ []
    ≡ 10 ∷ 11 ∷ 12 ∷ 13 ∷ 14 ∷ []) ×
    (file_number bad_brace ∷ file_number bad_call ∷ file_number no_element ∷ file_number macro_too_long ∷ file_number too_many_macros ∷ []
    ≡ 15 ∷ 16 ∷ 17 ∷ 18 ∷ 19 ∷ []) ×
    (work_number budget_used_up ∷ work_number new_line_too_long ∷ work_number tag_too_long ∷ [] ≡ 31 ∷ 32 ∷ 33 ∷ []) ×
    (work_number pointer_too_high ∷ work_number counter_too_high ∷ [] ≡ 34 ∷ 35 ∷ [])
unfolding everything
refusal_numbers = (refl, refl, refl, refl, refl, refl)

-- "the place (10 to 19, else 0)"
pub refusal_places :
    place (of_host bad_table) ∷ place (of_line bad_byte) ∷ place (of_file bad_call 7) ∷ place (of_work tag_too_long) ∷ [] ≡ 0 ∷ 0 ∷ 7 ∷ 0 ∷ []
unfolding everything
refusal_places = refl

-- n copies of some bytes
abbrev times : ℕ → List ℕ → List ℕ
times zero s = []
times (suc n) s = s ++ times n s

-- a macro of 8 bytes
abbrev little : List ℕ
little = bytes "'a'='b';"

-- 10, 11, 18 and 19 at their bounds
pub bounds :
    (shown (read_file (times 96 little)) ≡ (0, 96)) ×
    (shown (read_file (times 96 little ++ bytes " '")) ≡ (19, 769)) ×
    (shown (elim (read_file (times 95 little)) [ table ms ↦ read_onto ms little | refused_at r p ↦ refused_at r p ]) ≡ (0, 96)) ×
    (shown (elim (read_file (times 95 little)) [ table ms ↦ read_onto ms (little ++ little) | refused_at r p ↦ refused_at r p ]) ≡ (19, 8)) ×
    (shown (read_file (replicate 32768 32)) ≡ (0, 0)) ×
    (shown (read_file (replicate 32769 32)) ≡ (10, 32768)) ×
    (shown (read_file (0 ∷ replicate 32768 32)) ≡ (10, 32768)) ×
    (shown (read_file (39 ∷ 39 ∷ 0 ∷ [])) ≡ (11, 2)) ×
    (shown (read_file (sized 505)) ≡ (0, 1)) ×
    (shown (read_file (sized 506)) ≡ (18, 512)) ×
    (shown (read_file (bytes "'a/" ++ (replicate 600 120 ++ bytes "/'='b';"))) ≡ (18, 512)) ×
    (shown (read_file (bytes "'" ++ (replicate 99 123 ++ bytes "a'"))) ≡ (15, 101)) ×
    (shown (read_file (bytes "'" ++ (replicate 100 123 ++ bytes "a'"))) ≡ (15, 100))
unfolding everything
bounds = (refl, refl, refl, refl, refl, refl, refl, refl, refl, refl, refl, refl, refl)

-- 02, N2: 19 at the `&` or `#` of the first call, once its `(` is seen, whatever stands behind
pub call_bounds :
    (shown (read_file (times 96 little ++ bytes " #(v=1)'a'='b';")) ≡ (19, 769)) ×
    (shown (read_file (times 96 little ++ bytes "&(")) ≡ (19, 768)) ×
    (shown (read_file (times 96 little ++ bytes "&#/;;/(1")) ≡ (19, 769)) ×
    (shown (read_file (times 96 little ++ (bytes "&/" ++ (replicate 600 120 ++ bytes "/(")))) ≡ (19, 768)) ×
    (shown (read_file (times 96 little ++ bytes "& # &/x/")) ≡ (0, 96)) ×
    (shown (read_file (times 95 little ++ bytes "#(v=1)'a'='b';")) ≡ (0, 96)) ×
    (shown (elim (read_file (times 96 little)) [ table ms ↦ read_onto ms (bytes " #(v=1)") | refused_at r p ↦ refused_at r p ]) ≡ (19, 1))
unfolding everything
call_bounds = (refl, refl, refl, refl, refl, refl, refl)

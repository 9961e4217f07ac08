-- Cases of the form of a macro and of the check of a slot, computed.
use Rattle.std.specs.Prelude.{◌≡◌, refl, ℕ, true, false, List, [], ◌∷◌, take, replicate}
use Rattle.form_bytes.specs.Fours.{four}
use Rattle.macros.specs.Macro.{Call, Macro}
use Rattle.macros.specs.Macro.Closure.{once}
use Rattle.macros.specs.Macro.Mark.{stack, counter}
use Rattle.macros.specs.Macro.PatternUnit.{literal}
use Rattle.macros.specs.Macro.Piece.{element, left, right}
use Rattle.macros.specs.Macro.Move.{still}
use Rattle.macros.specs.Macro.Call.{insert, store_tag, store_text, set_increment, divide}
use Rattle.macros.specs.Macro.Symbol.{equal}
use Rattle.macros.specs.Read.{Read, read_file}
use Rattle.macros.specs.ReadFile.Read.{refused_at, table}
use Rattle.macros.specs.Cases.{everything as macros_open, bytes}
use Rattle.form_table.specs.Form.{closure_code, unit_code, unit_operand, member_items, members_items, unit_rest, piece_items, pattern_items}
use Rattle.form_table.specs.Form.{move_code, two, evened, call_items, calls_items, action_items, replacement_items, symbol_code, header, body}
use Rattle.form_table.specs.Form.{slot, slots}
use Rattle.form_table.specs.Walk.{given, bit, walk}
use Rattle.form_table.specs.PatternWalk.{closure_of, closure_length, closure_joint, unit_of, joins_at, literal_length as pattern_length}
use Rattle.form_table.specs.PatternWalk.{literal_joint, opening, element_at, element_step, sign_step, piece_step, pattern_step, pattern_start}
use Rattle.form_table.specs.PatternWalk.{pattern_ends, pattern_spelled}
use Rattle.form_table.specs.ActionWalk.{figures, move_length, literal_length, text_length, move_of, call_as, call_at, called_step, call_step}
use Rattle.form_table.specs.ActionWalk.{begin_step, text_spot, text_step, high_step, action_step, action_start, action_ends, action_spelled}
use Rattle.form_bytes.specs.Zeros.{all_zero}
use Rattle.form_table.specs.Check.{after_calls, after_commands, after_replacement, after_pattern, items_fit, two_at, items_at}
use Rattle.form_table.specs.Check.{parts_fit, slot_fits}

-- opens Form
unfoldable opens_form : ℕ
unfolding macros_open four closure_code unit_code unit_operand member_items members_items unit_rest piece_items pattern_items move_code two evened
    call_items calls_items action_items replacement_items symbol_code header body slot slots
opens_form = 0

-- opens the check of a slot
unfoldable opens_check : ℕ
unfolding opens_form given bit walk closure_of closure_length closure_joint unit_of joins_at pattern_length literal_joint opening element_at element_step
    sign_step piece_step pattern_step pattern_start pattern_ends pattern_spelled figures move_length literal_length text_length move_of call_as call_at
    called_step call_step begin_step text_spot text_step high_step action_step action_start action_ends action_spelled after_calls after_commands
    after_replacement after_pattern items_fit all_zero two_at items_at parts_fit slot_fits
opens_check = 0

-- the slots of a file's macros
abbrev slots_of : Read → List ℕ
slots_of (refused_at r p) = []
slots_of (table ms) = slots ms

-- symbol, tags, four lengths; the calls before the pattern, the pattern, the replacement, the commands; zeros
pub a_slot :
    take 30 (slots_of (read_file (bytes "#(v=258)'{a}'<'b'&(1,s);")))
    ≡ 1 ∷ 1 ∷ 6 ∷ 0 ∷ 6 ∷ 0 ∷ 2 ∷ 0 ∷ 4 ∷ 0
    ∷ 88 ∷ 118 ∷ 2 ∷ 1 ∷ 0 ∷ 0
    ∷ 1 ∷ 0 ∷ 8 ∷ 97 ∷ 2 ∷ 0
    ∷ 40 ∷ 98
    ∷ 64 ∷ 115 ∷ 42 ∷ 1
    ∷ 0 ∷ 0 ∷ []
unfolding opens_form
a_slot = refl

-- a macro with these calls before its pattern, which has a tag: beside them its shortest spelling has 9 bytes
abbrev with_calls : List Call → Macro
with_calls cs =
    record { before = cs; pattern = left ∷ element (literal 97) once ∷ right ∷ []; symbol = equal; replacement = []; commands = [] }

-- 02, N2: before a pattern a call neither inserts nor stores a tag; its bytes count towards the 512
pub calls_checked :
    (slot_fits (slot (with_calls [])) ≡ true) ×
    (slot_fits (slot (with_calls (store_text 97 still (98 ∷ []) ∷ set_increment 98 100 ∷ []))) ≡ true) ×
    (slot_fits (slot (with_calls (store_tag 1 97 still ∷ []))) ≡ false) ×
    (slot_fits (slot (with_calls (insert stack 97 still ∷ []))) ≡ false) ×
    (slot_fits (slot (with_calls (insert counter 97 still ∷ []))) ≡ false) ×
    (slot_fits (slot (with_calls (divide 97 4 ∷ []))) ≡ false) ×
    (slot_fits (slot (with_calls (replicate 62 (set_increment 98 100)))) ≡ true) ×
    (slot_fits (slot (with_calls (replicate 63 (set_increment 98 100)))) ≡ false)
unfolding opens_check
calls_checked = (refl, refl, refl, refl, refl, refl, refl, refl)

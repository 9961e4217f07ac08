-- Entries of both sizes, computed (02, N6): texts of 0, 1, 50, 51 and 100 bytes.
use Rattle.std.specs.Prelude.{◌≡◌, refl, ℕ, true, false, List, [], ◌∷◌, ◌++◌, replicate}
use Rattle.form_state.specs.Form.{entry_form_by, entries_form_by}
use Rattle.form_state.specs.Check.{blocks_check}
use Rattle.form_old.specs.Refusal.{width_number}
use Rattle.form_old.specs.Refusal.WidthRefusal.{long_entry}
use Rattle.form_old.specs.Old.{old_state_bytes, widened_entries, narrowed_entries, short_check}

-- a text of n letters `a`
abbrev letters : ℕ → List ℕ
letters n = replicate n 97

-- entries of which none is over 50 bytes
abbrev few : List (List ℕ)
few = [] ∷ letters 50 ∷ letters 1 ∷ []

-- 42 is its number, and an old state has 26,236 bytes
pub numbers : (width_number long_entry ≡ 42) × (old_state_bytes ≡ 26236)
unfolding width_number
numbers = (refl, refl)

-- entries of 50 bytes become the same entries of 100, and back
pub there_and_back :
    (widened_entries 3 (entries_form_by 50 few) ≡ entries_form_by 100 few) × (narrowed_entries 3 (entries_form_by 100 few) ≡ entries_form_by 50 few)
unfolding widened_entries narrowed_entries entries_form_by entry_form_by
there_and_back = (refl, refl)

-- a byte behind a 0 is not lost: so widened bytes that are no entry stay none
pub gap_kept : widened_entries 1 (0 ∷ letters 49) ≡ (0 ∷ letters 49) ++ replicate 50 0
unfolding widened_entries
gap_kept = refl

-- which entries have at most 50 bytes
pub short_ones :
    (blocks_check short_check 100 3 (entries_form_by 100 few) ≡ true) ×
    (short_check (entry_form_by 100 (letters 51)) ≡ false) ×
    (short_check (entry_form_by 100 (letters 100)) ≡ false) ×
    (blocks_check short_check 100 2 (entries_form_by 100 (letters 51 ∷ letters 50 ∷ [])) ≡ false) ×
    (blocks_check short_check 100 2 (entries_form_by 100 (letters 50 ∷ letters 51 ∷ [])) ≡ false)
unfolding blocks_check short_check entries_form_by entry_form_by
short_ones = (refl, refl, refl, refl, refl)

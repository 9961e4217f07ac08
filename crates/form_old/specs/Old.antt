-- 02, N6: a state of the old size as bytes; and the bytes of a state of one size made of those of the other.
use Rattle.std.specs.Prelude.{ℕ, zero, suc, ◌-◌, ◌≡◌, Bool, List, [], ◌++◌, eqb, get_or, take, drop, replicate}
use Rattle.macros.specs.Bounds.{most_entry_bytes, old_entry_bytes}
use Rattle.lines.specs.State.{State, InRange}
use Rattle.m_widths.specs.Widths.{IsOld, widened, Short}
use Rattle.form_state.specs.Form.{entries_from, entry_count, state_form_by}
use Rattle.form_state.specs.Check.{blocks_check}

-- the size of an old state's memory
abbrev pub old_state_bytes : ℕ
old_state_bytes = 26236

-- the bytes b are the form of the old state st: widened it is in range, and no entry has more than 50 bytes
pub record HoldsOld (b : List ℕ) (st : State) : Type 0 where
  pub old : IsOld st
  pub in_range : InRange (widened st)
  pub short : Short st
  pub form : state_form_by old_entry_bytes st ≡ b

-- TO THE NEW SIZE

-- an entry of 50 bytes, with 50 zeros more behind it
abbrev pub widened_entry : List ℕ → List ℕ
widened_entry e = e ++ replicate (most_entry_bytes - old_entry_bytes) 0

-- n entries
unfoldable pub widened_entries : ℕ → List ℕ → List ℕ
widened_entries zero b = []
widened_entries (suc n) b = widened_entry (take old_entry_bytes b) ++ widened_entries n (drop old_entry_bytes b)

-- all entries of a state
abbrev pub entries_widened : List ℕ → List ℕ
entries_widened b = widened_entries entry_count (drop entries_from b)

-- a whole state: flags, pointers, values and increments stand in front of the entries in both sizes
unfoldable pub widened_bytes : List ℕ → List ℕ
widened_bytes b = take entries_from b ++ entries_widened b

-- TO THE OLD SIZE

-- the first 50 bytes of each of n entries of 100 bytes
unfoldable pub narrowed_entries : ℕ → List ℕ → List ℕ
narrowed_entries zero b = []
narrowed_entries (suc n) b = take old_entry_bytes b ++ narrowed_entries n (drop most_entry_bytes b)

-- all entries of a state
abbrev pub entries_narrowed : List ℕ → List ℕ
entries_narrowed b = narrowed_entries entry_count (drop entries_from b)

-- a whole state
unfoldable pub narrowed_bytes : List ℕ → List ℕ
narrowed_bytes b = take entries_from b ++ entries_narrowed b

-- whether an entry of 100 bytes has a 0 behind its first 50, so that its text has no more than 50 (no text holds a 0); if not, 42
unfoldable pub short_check : List ℕ → Bool
short_check e = eqb (get_or e old_entry_bytes 0) 0

-- each entry of a whole state
unfoldable pub short_entries : List ℕ → Bool
short_entries b = blocks_check short_check most_entry_bytes entry_count (drop entries_from b)

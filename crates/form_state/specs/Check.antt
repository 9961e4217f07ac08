-- 01, refusal 2: whether bytes are a state, as a decision.
use Rattle.std.specs.Prelude.{ℕ, zero, suc, ◌≡◌, ◌↔◌, Bool, true, not, ◌&&◌, ◌||◌, List, [], ◌∷◌, leb, eqb, length, get_or, take, drop}
use Rattle.form_bytes.specs.Fours.{number_at}
use Rattle.macros.specs.Bounds.{most_entries, most_entry_bytes, most_counter}
use Rattle.macros.specs.Macro.{within}
use Rattle.macros.specs.Formed.{Octets}
use Rattle.lines.specs.State.{State, InRange}
use Rattle.form_state.specs.Form.{state_bytes, entries_from, entry_count, state_form}

-- each pointer is 1 to 20
unfoldable pub pointers_check : List ℕ → Bool
pointers_check [] = true
pointers_check (p ∷ ps) = within 1 most_entries p && pointers_check ps

-- a counter's value or increment, in four bytes, low byte first, is 1 to 999,999,999
unfoldable pub number_check : List ℕ → Bool
number_check b = within 1 most_counter (number_at b 0)

-- in an entry no byte other than 0 follows a byte 0
unfoldable pub entry_check : List ℕ → Bool
entry_check [] = true
entry_check (a ∷ []) = true
entry_check (a ∷ b ∷ bs) = (not (eqb a 0) || eqb b 0) && entry_check (b ∷ bs)

-- n blocks of w bytes each pass a check
unfoldable pub blocks_check : (List ℕ → Bool) → ℕ → ℕ → List ℕ → Bool
blocks_check ok w zero b = true
blocks_check ok w (suc n) b = ok (take w b) && blocks_check ok w n (drop w b)

-- the length, the flags, the 26 pointers, the 52 numbers of the counters and the 520 entries
unfoldable pub state_checks : List ℕ → Bool
state_checks b =
    eqb (length b) state_bytes
    && (leb (get_or b 0 0) 1
    && (leb (get_or b 1 0) 1
    && (pointers_check (take 26 (drop 2 b))
    && (blocks_check number_check 4 52 (take 208 (drop 28 b)) && blocks_check entry_check most_entry_bytes entry_count (drop entries_from b)))))

-- Bytes pass the check exactly where they are the form of a state in range.
abbrev pub StateCheckExact : Type 0
StateCheckExact = (b : List ℕ) → Octets b → (state_checks b ≡ true) ↔ ((st : State) × InRange st × (state_form st ≡ b))

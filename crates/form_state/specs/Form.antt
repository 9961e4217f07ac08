-- The form of a state as bytes, 52,236 of them: the flags TRACE and NFLAG; the 26 pointers;
-- the 26 values and the 26 increments of the counters, four bytes each, low byte first;
-- then the 20 entries of each stack, 100 bytes each, zeros behind an entry's text. Entries hold no byte 0, so they need no length.
use Rattle.std.specs.Prelude.{ℕ, ◌-◌, List, [], ◌∷◌, ◌++◌, length, replicate}
use Rattle.macros.specs.Bounds.{most_entry_bytes}
use Rattle.form_bytes.specs.Fours.{four}
use Rattle.lines.specs.State.{Stack, Counter, State}

-- the size of a state's memory
abbrev pub state_bytes : ℕ
state_bytes = 52236

-- where the entries begin: behind 2 flags, 26 pointers, and 52 numbers of four bytes
abbrev pub entries_from : ℕ
entries_from = 236

-- how many entries all stacks have
abbrev pub entry_count : ℕ
entry_count = 520

-- the bytes of a stack's entries
abbrev pub stack_bytes : ℕ
stack_bytes = 2000

-- the bytes of all entries
abbrev pub stacks_bytes : ℕ
stacks_bytes = 52000

-- the pointers, a byte each
unfoldable pub pointers_form : List Stack → List ℕ
pointers_form [] = []
pointers_form (k ∷ ks) = k.pointer ∷ pointers_form ks

-- the values of the counters
unfoldable pub values_form : List Counter → List ℕ
values_form [] = []
values_form (k ∷ ks) = four k.value ++ values_form ks

-- the increments of the counters
unfoldable pub increments_form : List Counter → List ℕ
increments_form [] = []
increments_form (k ∷ ks) = four k.increment ++ increments_form ks

-- FOR ENTRIES OF n BYTES (02, N6)

-- an entry and the zeros behind it
unfoldable pub entry_form_by : (n : ℕ) → List ℕ → List ℕ
entry_form_by n e = e ++ replicate (n - length e) 0

-- the entries of a stack
unfoldable pub entries_form_by : (n : ℕ) → List (List ℕ) → List ℕ
entries_form_by n [] = []
entries_form_by n (e ∷ es) = entry_form_by n e ++ entries_form_by n es

-- the entries of all stacks
unfoldable pub stacks_form_by : (n : ℕ) → List Stack → List ℕ
stacks_form_by n [] = []
stacks_form_by n (k ∷ ks) = entries_form_by n k.entries ++ stacks_form_by n ks

-- a whole state
unfoldable pub state_form_by : (n : ℕ) → State → List ℕ
state_form_by n st =
    st.trace ∷ st.nflag
    ∷ (pointers_form st.stacks ++ (values_form st.counters ++ (increments_form st.counters ++ stacks_form_by n st.stacks)))

-- WITH 100 BYTES

-- an entry and the zeros behind it
abbrev pub entry_form : List ℕ → List ℕ
entry_form = entry_form_by most_entry_bytes

-- the entries of a stack
abbrev pub entries_form : List (List ℕ) → List ℕ
entries_form = entries_form_by most_entry_bytes

-- the entries of all stacks
abbrev pub stacks_form : List Stack → List ℕ
stacks_form = stacks_form_by most_entry_bytes

-- a whole state
abbrev pub state_form : State → List ℕ
state_form = state_form_by most_entry_bytes

-- 02, N6: states of both sizes. An entry has at most 50 bytes in a state of the old engine, and at most 100 in one of the new engine.
use Rattle.std.specs.Prelude.{ℕ, ◌≤◌, ◌≡◌, List, length}
use Rattle.macros.specs.Bounds.{most_entry_bytes, old_entry_bytes}
use Rattle.lines.specs.State.{Stack, State, AllOf}

-- a state of the old engine, by how many bytes an entry may have in it
abbrev pub IsOld : State → Type 0
IsOld st = st.entry_bytes ≡ old_entry_bytes

-- the same state with entries of at most n bytes
abbrev pub bounded : (n : ℕ) → State → State
bounded n st = record { stacks = st.stacks; counters = st.counters; trace = st.trace; nflag = st.nflag; entry_bytes = n }

-- the state of the new engine with the same contents
abbrev pub widened : State → State
widened = bounded most_entry_bytes

-- the state of the old engine with the same contents, if no entry has more than 50 bytes (Short)
abbrev pub narrowed : State → State
narrowed = bounded old_entry_bytes

-- no entry has more than 50 bytes
abbrev pub Short : State → Type 0
Short st = AllOf (λ (k : Stack). AllOf (λ (e : List ℕ). length e ≤ old_entry_bytes) k.entries) st.stacks

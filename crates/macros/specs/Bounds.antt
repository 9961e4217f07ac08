-- 01, "Bounds and the fresh state", and N1 of 02: each bound once.
use Rattle.std.specs.Prelude.{ℕ}

-- the bytes of a macro file
abbrev pub most_file_bytes : ℕ
most_file_bytes = 32768

-- the macros of a table
abbrev pub most_macros : ℕ
most_macros = 96

-- the bytes from a macro's first quote to its `;`, both counted; by N2 of 02 from the `&` or `#` of the first call before its pattern
abbrev pub most_macro_bytes : ℕ
most_macro_bytes = 512

-- the tags of a pattern
abbrev pub most_tags : ℕ
most_tags = 99

-- the bytes of a line
abbrev pub most_line_bytes : ℕ
most_line_bytes = 1054

-- the stacks, and the counters, one for each lower case letter
abbrev pub letters : ℕ
letters = 26

-- the entries of a stack, and so the largest pointer
abbrev pub most_entries : ℕ
most_entries = 20

-- the bytes of an entry, and of the text in a call (02, N6)
abbrev pub most_entry_bytes : ℕ
most_entry_bytes = 100

-- the same in the old engine, before N6
abbrev pub old_entry_bytes : ℕ
old_entry_bytes = 50

-- the largest counter, the largest increment, and the largest number that a counter is divided by (02, N7)
abbrev pub most_counter : ℕ
most_counter = 999999999

-- the largest budget
abbrev pub most_budget : ℕ
most_budget = 1000000

-- the bytes of a line's trace: "at least 65,536 bytes, the size fixed in the docs" (02, N1)
abbrev pub most_trace_bytes : ℕ
most_trace_bytes = 65536

-- What is promised of the shortest spelling, and so of "each of which some file spells" (01, refusal 1).
-- Edits of must-fail/ that ShortestReads rules out: star_dash (a `\` too few), dash_lost and class_skips (a class is read otherwise).
-- NoShorter: needless_mark and needless_brace (a `\` too many).
-- SomeFileSpells and AcceptedMeans: all five, bound_512 (513 bytes are read) and calls_512 (calls before a pattern do not count).
use Rattle.std.specs.Prelude.{ℕ, ◌≤◌, ◌≡◌, List, [], ◌∷◌, ◌++◌, ◌↔◌, length}
use Rattle.macros.specs.Bounds.{most_macros, most_macro_bytes}
use Rattle.macros.specs.Macro.{Macro, Table}
use Rattle.macros.specs.Formed.{Octets, Formed}
use Rattle.macros.specs.Read.{read_onto, read_file}
use Rattle.macros.specs.ReadFile.Read.{table}
use Rattle.macros.specs.Spell.{shortest}
use Rattle.macros.specs.Accepted.{Spelled, Spellable, Each, Accepted}

-- A well-formed macro whose shortest spelling is no longer than a macro may be: a file of that spelling reads as this macro alone.
abbrev pub ShortestReads : Type 0
ShortestReads = (m : Macro) → Formed m → length (shortest m) ≤ most_macro_bytes → read_file (shortest m) ≡ table (m ∷ [])

-- No text that is read as this macro is shorter than its shortest spelling: with `older` empty a file,
-- with any other macros before it a text in a file or behind `$MACRO`.
abbrev pub NoShorter : Type 0
NoShorter = (older : Table) (m : Macro) (s : List ℕ)
    → Octets s → read_onto older s ≡ table (older ++ (m ∷ [])) → length (shortest m) ≤ length s

-- So some file spells a macro exactly if it is well formed and its shortest spelling is no longer than a macro may be.
abbrev pub SomeFileSpells : Type 0
SomeFileSpells = (m : Macro) → Spellable m ↔ Spelled m

-- So a table is accepted exactly if it has at most 96 macros, each of them well formed and with such a spelling.
abbrev pub AcceptedMeans : Type 0
AcceptedMeans = (ms : Table) → Accepted ms ↔ ((length ms ≤ most_macros) × Each Spellable ms)

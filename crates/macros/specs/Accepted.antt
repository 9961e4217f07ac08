-- 01, refusal 1: which tables are accepted.
use Rattle.std.specs.Prelude.{ℕ, ◌≤◌, ◌≡◌, List, [], ◌∷◌, length}
use Rattle.macros.specs.Bounds.{most_macros, most_macro_bytes, most_entry_bytes}
use Rattle.macros.specs.Macro.{Macro, Table}
use Rattle.macros.specs.Formed.{Octets, Formed}
use Rattle.macros.specs.Read.{read_file_by}
use Rattle.macros.specs.ReadFile.Read.{table}
use Rattle.macros.specs.Spell.{shortest}

-- "some file spells" it: a file that reading, with texts of at most `longest` bytes, takes as this macro alone
abbrev pub SpelledBy : (longest : ℕ) → Macro → Type 0
SpelledBy longest m = (s : List ℕ) × Octets s × (read_file_by longest s ≡ table (m ∷ []))

-- with texts of at most 100 bytes
abbrev pub Spelled : Macro → Type 0
Spelled = SpelledBy most_entry_bytes

-- a claim about each macro of a table
abbrev pub Each : (Macro → Type 0) → Table → Type 0
Each P [] = Unit {0}
Each P (m ∷ ms) = P m × Each P ms

-- "at most 96 macros, each of which some file spells", with texts of at most `longest` bytes
pub record AcceptedBy (longest : ℕ) (ms : Table) : Type 0 where
  pub count : length ms ≤ most_macros
  pub macros : Each (SpelledBy longest) ms

-- with texts of at most 100 bytes
abbrev pub Accepted : Table → Type 0
Accepted = AcceptedBy most_entry_bytes

-- what is tested instead: it is well formed, and its shortest spelling has at most 512 bytes (SomeFileSpells of Spelling.antt)
abbrev pub Spellable : Macro → Type 0
Spellable m = Formed m × (length (shortest m) ≤ most_macro_bytes)

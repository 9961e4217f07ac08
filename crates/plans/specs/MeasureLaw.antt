-- THE LAW OF MEASURING: an answer is given exactly for its reason. "The most" is said here in notions of its own.
-- Shared with the definitions are reading, writing out, and which pieces of a pattern are elements and tags; there the cases stand.
use Rattle.std.specs.Prelude.{◌≡◌, ◌⊎◌, ◌↔◌, ℕ, ◌≤◌, List, [], ◌∷◌, length}
use Rattle.macros.specs.Bounds.{most_file_bytes, most_macros, most_macro_bytes, most_tags}
use Rattle.macros.specs.Macro.{Macro, Table}
use Rattle.macros.specs.Formed.{Octets}
use Rattle.macros.specs.Read.{read_file}
use Rattle.macros.specs.ReadFile.Read.{refused_at, table}
use Rattle.macros.specs.Write.{write_out}
use Rattle.macros.specs.Write.Written.{refused, file}
use Rattle.plans.specs.Measure.{Size, Measured, macro_elements, macro_tags, measure}
use Rattle.plans.specs.Measure.Size.{bytes, unwritten}
use Rattle.plans.specs.Measure.Measured.{takes, unread}

-- x is one of the macros
unfoldable pub OneOf : Macro → Table → Type 0
OneOf x [] = ⊥
OneOf x (m ∷ ms) = (x ≡ m) ⊎ OneOf x ms

-- n is "the most .. that any macro has (0 without macros)", of what f counts
pub record IsMost (f : Macro → ℕ) (ms : Table) (n : ℕ) : Type 0 where
  -- no macro has more
  pub no_more : (m : Macro) → OneOf m ms → f m ≤ n
  -- one has so many, where there is a macro
  pub reached : (ms ≡ [] → ⊥) → (m : Macro) × OneOf m ms × (f m ≡ n)
  pub without : ms ≡ [] → n ≡ 0

-- the table ms "once made, shows" n macros, at most e elements and at most t tags; the two may be of different macros
pub record Shows (ms : Table) (n e t : ℕ) : Type 0 where
  pub macros : length ms ≡ n
  pub elements : IsMost macro_elements ms e
  pub tags : IsMost macro_tags ms t

-- the bytes of the table written out, or why it cannot be
abbrev pub SizeIs : Table → Size → Type 0
SizeIs ms (bytes n) = (s : List ℕ) × (write_out ms ≡ file s) × (length s ≡ n)
SizeIs ms (unwritten r p) = write_out ms ≡ refused r p

-- the reason of each answer to the file s
abbrev pub Reason : List ℕ → Measured → Type 0
Reason s (takes n e t z) = (ms : Table) × (read_file s ≡ table ms) × Shows ms n e t × SizeIs ms z
Reason s (unread r p) = read_file s ≡ refused_at r p

-- THE LAW: an answer is given exactly if it has its reason
abbrev pub MeasuresExactly : Type 0
MeasuresExactly = (s : List ℕ) (v : Measured) → (measure s ≡ v) ↔ Reason s v

-- HOW LARGE THE NUMBERS CAN BE, so that they fit into 32 bits

-- bytes and places lie in a file
abbrev pub SmallSize : Size → Type 0
SmallSize (bytes n) = n ≤ most_file_bytes
SmallSize (unwritten r p) = p ≤ most_file_bytes

-- a macro has no more elements than bytes
abbrev pub Small : Measured → Type 0
Small (takes n e t z) = (n ≤ most_macros) × (e ≤ most_macro_bytes) × (t ≤ most_tags) × SmallSize z
Small (unread r p) = p ≤ most_file_bytes

abbrev pub MeasuresSmall : Type 0
MeasuresSmall = (s : List ℕ) → Octets s → Small (measure s)

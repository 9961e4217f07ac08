-- What the parts of reading a line do.
use Rattle.std.specs.Prelude.{ℕ, ◌≤◌, min, ◌≡◌, Bool, true, ◌||◌, List, [], ◌∷◌, ◌++◌, length}
use Rattle.program_in.specs.declared.Reading.{Reading}
use Rattle.program_in.specs.declared.Turn.{Turn}
use Rattle.program_in.specs.Reading.{coming, over, has_byte}

-- no line feed is among the bytes
unfoldable pub NoFeed : List ℕ → Type 0
NoFeed [] = Unit
NoFeed (b ∷ s) = (b ≡ 10 → ⊥) × NoFeed s

-- of the line's bytes s, those that fit stand over the memory m as it was before the line
pub record Kept (m s line : List ℕ) (held : ℕ) : Type 0 where
  pub memory : line ≡ over s m
  pub count : held ≡ min (length s) (length m)

-- the bytes s are kept behind those kept before
pub record Keeps (line : List ℕ) (held : ℕ) (s line' : List ℕ) (held' : ℕ) : Type 0 where
  pub goes : (m t : List ℕ) → Kept m t line held → Kept m (t ++ s) line' held'

-- where the bytes stop: at a line feed, or with the last of them
pub data Stops (all bytes rest : List ℕ) : Bool → Type 0 where
  fed : all ≡ bytes ++ (10 ∷ rest) → Stops all bytes rest true
  used : (ended : Bool) → all ≡ bytes → rest ≡ [] → Stops all bytes rest ended

-- a part of the line is taken from the bytes to come and those that the system gave
pub record Part (from : Reading) (block line : List ℕ) (r : Turn) (block' line' : List ℕ) : Type 0 where
  pub given : List ℕ
  pub bytes : List ℕ
  pub no_feed : NoFeed bytes
  pub stops : Stops (coming from block ++ given) bytes (coming r.reading block') r.ended
  pub begun : r.reading.begun ≡ from.begun || has_byte (coming from block ++ given)
  pub keeps : Keeps line from.held bytes line' r.reading.held
  pub within : r.reading.size ≤ length block'

-- more bytes are to come, if the system gave any
pub record Filled (from : Reading) (block : List ℕ) (r : Reading) (block' : List ℕ) : Type 0 where
  pub given : List ℕ
  pub come : coming from block ++ given ≡ coming r block'
  pub begun : r.begun ≡ from.begun
  pub held : r.held ≡ from.held
  pub within : r.size ≤ length block'

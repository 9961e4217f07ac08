-- WHAT READING A LINE GIVES. Which bytes the system gives, no contract of the kit says: they are some list.
use Rattle.std.specs.Prelude.{ℕ, ◌≤◌, min, ◌≡◌, Bool, true, false, cond, List, [], ◌∷◌, ◌++◌, eqb, length, take, drop}
use Rattle.program_in.specs.declared.Reading.{Reading}

-- the bytes of the block that are still to come
unfoldable pub coming : Reading → List ℕ → List ℕ
coming r block = drop r.at (take r.size block)

-- a line's bytes, and those behind its line feed
pub record Line : Type 0 where
  pub bytes : List ℕ
  pub rest : List ℕ

-- some bytes before a line
unfoldable pub ahead : List ℕ → Line → Line
ahead s l = record { bytes = s ++ l.bytes; rest = l.rest }

-- the first line: up to the line feed, or to the end
unfoldable pub line_of : List ℕ → Line
line_of [] = record { bytes = []; rest = [] }
line_of (b ∷ s) = cond (eqb b 10) (record { bytes = []; rest = s }) (ahead (b ∷ []) (line_of s))

-- bytes over a memory from its front, as many as it has room for
unfoldable pub over : List ℕ → List ℕ → List ℕ
over [] m = m
over (b ∷ s) [] = []
over (b ∷ s) (_ ∷ m) = b ∷ over s m

-- there is a byte
unfoldable pub has_byte : List ℕ → Bool
has_byte [] = false
has_byte (_ ∷ _) = true

-- from the bytes to come and those that the system gave, the first line is read
pub record LineRead (from : Reading) (block line : List ℕ) (r : Reading) (block' line' : List ℕ) : Type 0 where
  pub given : List ℕ
  pub all : List ℕ
  pub whole : all ≡ coming from block ++ given
  -- a line has begun unless the input has ended
  pub begun : r.begun ≡ has_byte all
  -- of a long line as many bytes are held as the memory has; its other bytes are as they were
  pub held : r.held ≡ min (length (line_of all).bytes) (length line)
  pub memory : line' ≡ over (line_of all).bytes line
  -- the bytes behind the line are still to come
  pub rest : coming r block' ≡ (line_of all).rest
  pub within : r.size ≤ length block'

-- WHAT PUTTING A TEXT DOES to a memory whose first bytes are not yet written to standard output.
-- What the system is then handed, no contract of the kit says.
use Rattle.std.specs.Prelude.{ℕ, ◌+◌, ◌≡◌, cond, List, ◌++◌, leb, length, take, drop}

-- what a memory holds, and how many of its first bytes are not yet written
pub record Held : Type 0 where
  pub memory : List ℕ
  pub used : ℕ

-- the text behind the first bytes
abbrev pub appends : (old : List ℕ) → (used : ℕ) → (text : List ℕ) → Held
appends old used text = record { memory = take used old ++ text ++ drop (used + length text) old; used = used + length text }

-- the text behind the first bytes where it fits; else they are written, and it goes to the front,
-- or is written too where it is longer than the memory
unfoldable pub puts : (old : List ℕ) → (used : ℕ) → (text : List ℕ) → Held
puts old used text =
    cond (leb (used + length text) (length old)) (appends old used text)
    (cond (leb (length text) (length old)) (appends old 0 text) (record { memory = old; used = 0 }))

-- the memory at exit, and the number that the function returns
pub record Gives (h : Held) (new : List ℕ) (r : ℕ) : Type 0 where
  pub memory : new ≡ h.memory
  pub used : r ≡ h.used

-- the first bytes then: those held, and the text
pub record Behind (old : List ℕ) (used : ℕ) (text new : List ℕ) (r : ℕ) : Type 0 where
  pub bytes : take r new ≡ take used old ++ text

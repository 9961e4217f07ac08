-- What reading a number in four bytes is held to.
-- The laws rule out the edits fours_high_first (the highest byte is first) and fours_factor (the third byte counts 65,535 times).
use Rattle.std.specs.Prelude.{ℕ, ◌≤◌, ◌≡◌, List, length, take, drop}
use Rattle.form_bytes.specs.Fours.{four, number_at, with_number}

-- Where the four bytes of a number stand, it is read: the law of `number_at`.
abbrev pub NumberReads : Type 0
NumberReads = (b : List ℕ) (p n : ℕ) → take 4 (drop p b) ≡ four n → number_at b p ≡ n

-- What `put_number` stores, `number_at` reads.
abbrev pub StoredReads : Type 0
StoredReads = (b : List ℕ) (p n : ℕ) → p ≤ length b → number_at (with_number b p n) p ≡ n

-- The macros that are due, and those that are closed to the line, by the bytes that say so (01, part 6).
use Rattle.std.specs.Prelude.{ℕ, ◌<◌, ◌≡◌, List, reverse, eqb, get_or, take}
use Rattle.macros.specs.Bounds.{most_macros}
use Rattle.macros.specs.Macro.{Table}
use Rattle.lines.specs.Line.{Numbered, is_in, open_from}

-- the open macros among the oldest k, newest first
unfoldable pub due_below : ℕ → List ℕ → Table → List Numbered
due_below k closed ms = reverse (open_from 0 closed (take k ms))

-- which macros are closed to the line: 1
abbrev pub Closes : List ℕ → List ℕ → Type 0
Closes flags closed = (i : ℕ) → i < most_macros → is_in i closed ≡ eqb (get_or flags i 0) 1

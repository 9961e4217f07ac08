-- What is read of a table's bytes is what the form has there.
-- ActionSizes is false with the edit size_of_rest (the bytes behind an action's items count too).
-- SlotLengths rules out the edit two_bytes_turned (of a number in two bytes the high one is taken for the low one).
use Rattle.std.specs.Prelude.{◌≡◌, List, ◌++◌, ℕ, length}
use Rattle.macros.specs.Macro.{Action, Macro}
use Rattle.form_table.specs.Form.{pattern_items, replacement_items, calls_items, action_items, slot}
use Rattle.form_table.specs.Actions.{action_size}
use Rattle.form_table.specs.Check.{two_at}

-- An action takes as many bytes as its items are, whatever stands behind them: the law of `action_size`.
abbrev pub ActionSizes : Type 0
ActionSizes = (a : Action) (rest : List ℕ) → action_size (action_items a ++ rest) ≡ length (action_items a)

-- the lengths in a macro's slot
pub record Lengths (m : Macro) : Type 0 where
  pub before : two_at (slot m) 2 ≡ length (calls_items m.before)
  pub pattern : two_at (slot m) 4 ≡ length (pattern_items m.pattern)
  pub replacement : two_at (slot m) 6 ≡ length (replacement_items m.replacement)
  pub commands : two_at (slot m) 8 ≡ length (calls_items m.commands)

-- The numbers that stand in two bytes each are the lengths of a slot's four parts: the law of `two_at`.
abbrev pub SlotLengths : Type 0
SlotLengths = (m : Macro) → Lengths m

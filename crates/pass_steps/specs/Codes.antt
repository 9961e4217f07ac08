-- The codes of calls among the items of an action.
use Rattle.std.specs.Prelude.{ℕ}
use Rattle.macros.specs.Macro.{Mark, pick, within}
use Rattle.macros.specs.Macro.Mark.{stack, counter}

-- what a call's code is of
unfoldable pub mark_in : ℕ → Mark
mark_in c = pick (within 56 63 c) counter stack

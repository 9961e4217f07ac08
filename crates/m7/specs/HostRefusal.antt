-- What the function promises that looks at the memories of m7_feed before a line is fed.
use Rattle.std.specs.Prelude.{ℕ, Bool, Option, Some, None}
use Rattle.macros.specs.Macro.{pick}
use Rattle.form_table.specs.Check.{checks}
use Rattle.form_state.specs.Check.{state_checks}
use Rattle.line_memory.specs.Memory.{Memories}
use Rattle.m7.specs.Feeding.{sized_to_feed}

-- "The host, first": 3 a memory of another size, then 1 bytes that are no table, 2 that are no state; or none is due
unfoldable pub first_due : (sized table state : Bool) → Option ℕ
first_due sized table state = pick sized (pick table (pick state None (Some 2)) (Some 1)) (Some 3)

-- of the memories of a call
unfoldable pub host_refusal : Memories → Option ℕ
host_refusal m = first_due (sized_to_feed m) (checks m.table) (state_checks m.state)

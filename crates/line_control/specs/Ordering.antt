-- What the functions behind a control line promise (01, part 6).
use Rattle.std.specs.Prelude.{ℕ, ◌+◌, ◌-◌, ◌*◌, ◌≤◌, ◌<◌, ◌≡◌, List, ◌++◌, length, take, replicate}
use Rattle.std.specs.Prelude.{Result, Ok, Err}
use Rattle.macros.specs.Macro.{Table, pick}
use Rattle.macros.specs.Read.{read_onto}
use Rattle.form_table.specs.Form.{table_bytes}
use Rattle.lines.specs.State.{State}
use Rattle.lines.specs.Feeding.{bytes, same, flag_order, macro_order}
use Rattle.lines.specs.Feeding.{Order as Ordered}
use Rattle.lines.specs.Feeding.Order.{wrong, orders}
use Rattle.form_state.specs.Access.{Holds}
use Rattle.line_memory.specs.Memory.{IsTable}
use Rattle.line_control.specs.Contract.{refusal_of, Obeys}
use Rattle.line_control.specs.declared.ControlError.{ControlError}
use Rattle.line_control.specs.declared.ControlError.TheVariants.{BadControl}

-- FLAGS

-- the value behind a flag's word: 0, 1, or another
unfoldable pub value_of : List ℕ → ℕ
value_of s = pick (same s (bytes " 0")) 0 (pick (same s (bytes " 1")) 1 2)

-- 0 or 1; another is refused
abbrev pub Valued : List ℕ → Result ℕ ControlError → Type 0
Valued s (Ok v) = (v ≡ value_of s) × (v ≤ 1)
Valued s (Err w) = (1 < value_of s) × (w ≡ BadControl)

-- what a line orders that may set a flag
abbrev pub Flagged : Ordered → Table → List ℕ → List ℕ → Result (Unit {0}) ControlError → Type 0
Flagged o ms b b' (Ok u) = (st : State) × (o ≡ orders ms st) × Holds b' st
Flagged o ms b b' (Err w) = (o ≡ wrong (refusal_of w)) × (b' ≡ b)

-- of every state that the bytes are, which flag the line t sets
pub record Sets (b b' t : List ℕ) (r : Result (Unit {0}) ControlError) : Type 0 where
  pub sets : (ms : Table) (st : State) → Holds b st → Flagged (flag_order ms st t) ms b b' r

-- MACROS

-- n macros are one more than count; or all slots behind count are zero
abbrev pub OneMore : List ℕ → List ℕ → ℕ → ℕ → Result (Unit {0}) ControlError → Type 0
OneMore table table' count n (Ok u) = (n ≡ count + 1) × (table' ≡ table)
OneMore table table' count n (Err w) =
    (n ≡ count + 1 → ⊥) × (w ≡ BadControl) × (table' ≡ take (1024 * count) table ++ replicate (table_bytes - 1024 * count) 0)

-- what the bytes behind `$MACRO` order, of any state
pub record AddsOne (table table' : List ℕ) (count : ℕ) (s : List ℕ) (r : Result (Unit {0}) ControlError) : Type 0 where
  pub obeys : (ms : Table) → IsTable table ms → length ms ≡ count → (st : State) (b : List ℕ) → Holds b st
      → Obeys (macro_order ms st (read_onto ms s)) table table' b b r

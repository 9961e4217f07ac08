-- THE CONTRACT OF control: from the lent bytes at entry, the answer and what table and state then hold (01, part 6).
use Rattle.std.specs.Prelude.{ℕ, ◌≡◌, List, length, Result, Ok, Err}
use Rattle.macros.specs.Refusals.{Refusal}
use Rattle.macros.specs.Refusals.Refusal.{of_line, of_file}
use Rattle.macros.specs.Refusals.LineRefusal.{bad_control}
use Rattle.macros.specs.Macro.{Table}
use Rattle.lines.specs.State.{State}
use Rattle.lines.specs.Feeding.{order_of}
use Rattle.lines.specs.Feeding.{Order as Ordered}
use Rattle.lines.specs.Feeding.Order.{wrong, orders}
use Rattle.form_state.specs.Access.{Holds}
use Rattle.read_scan.specs.Scan.{fault_of}
use Rattle.line_memory.specs.Memory.{IsTable}
use Rattle.line_control.specs.declared.ControlError.{ControlError}
use Rattle.line_control.specs.declared.ControlError.TheVariants.{BadControl, InMacro}

-- 01's refusal for each reason
abbrev pub refusal_of : ControlError → Refusal
refusal_of BadControl = of_line bad_control
refusal_of (InMacro e) = of_file (fault_of e.fault) e.place

-- what a control line orders, and what table and state hold then; a refused one leaves both as they were
abbrev pub Obeys : Ordered → (table table' b b' : List ℕ) → Result (Unit {0}) ControlError → Type 0
Obeys o table table' b b' (Ok u) = (ks : Table) × (st : State) × (o ≡ orders ks st) × IsTable table' ks × Holds b' st
Obeys o table table' b b' (Err w) = (o ≡ wrong (refusal_of w)) × (table' ≡ table) × (b' ≡ b)

-- of every table and state that the bytes are, what the control line t orders
pub record Orders (table table' b b' : List ℕ) (count : ℕ) (t : List ℕ) (r : Result (Unit {0}) ControlError) : Type 0 where
  pub obeys : (ms : Table) → IsTable table ms → length ms ≡ count → (st : State) → Holds b st → Obeys (order_of ms st t) table table' b b' r

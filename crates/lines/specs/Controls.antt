-- 01, part 6: what a control line is, by its text alone, and what it does. The law joins it to order_of of Feeding.
-- In brackets stand the edits of must-fail/ that a clause rules out.
use Rattle.std.specs.Prelude.{ℕ, ◌≡◌, ◌⊎◌, List, [], ◌∷◌, ◌++◌}
use Rattle.macros.specs.Refusals.{FileRefusal, Refusal}
use Rattle.macros.specs.Refusals.Refusal.{of_host, of_line, of_file, of_work}
use Rattle.macros.specs.Refusals.LineRefusal.{line_too_long, bad_byte, bad_control}
use Rattle.macros.specs.Macro.{Macro, Table}
use Rattle.macros.specs.Read.{read_onto_by}
use Rattle.macros.specs.ReadFile.Read.{refused_at, table}
use Rattle.lines.specs.State.{State}
use Rattle.lines.specs.Feeding.{bytes, Order, order_of}
use Rattle.lines.specs.Feeding.Order.{wrong, orders}

-- the control line s, given in the state x to the table ms, leaves the table ks and the state y

-- "`$MACRO` and the bytes after it, read as a macro file of one macro, adds the newest" [two_macros_taken]
pub record Adds (ms : Table) (x : State) (s : List ℕ) (ks : Table) (y : State) : Type 0 where
  pub rest : List ℕ
  pub newest : Macro
  pub word : s ≡ bytes "$MACRO" ++ rest
  pub reads : read_onto_by x.entry_bytes ms rest ≡ table ks
  pub added : ks ≡ ms ++ (newest ∷ [])
  pub state : y ≡ x

-- the line is exactly the one named, the flags are these after it, and all else is kept [trace_sets_nflag]
pub record Sets (line : List ℕ) (trace nflag : ℕ) (ms : Table) (x : State) (s : List ℕ) (ks : Table) (y : State) : Type 0 where
  pub exactly : s ≡ line
  pub table : ks ≡ ms
  pub trace_is : y.trace ≡ trace
  pub nflag_is : y.nflag ≡ nflag
  pub stacks : y.stacks ≡ x.stacks
  pub counters : y.counters ≡ x.counters
  pub entry_bytes : y.entry_bytes ≡ x.entry_bytes

-- "`$TRACE 0`, `$TRACE 1`, `$NFLAG 0`, `$NFLAG 1`, exactly so, set a flag"
abbrev pub Ordered : Table → State → List ℕ → Table → State → Type 0
Ordered ms x s ks y =
    Adds ms x s ks y
    ⊎ Sets (bytes "$TRACE 0") 0 x.nflag ms x s ks y
    ⊎ Sets (bytes "$TRACE 1") 1 x.nflag ms x s ks y
    ⊎ Sets (bytes "$NFLAG 0") x.trace 0 ms x s ks y
    ⊎ Sets (bytes "$NFLAG 1") x.trace 1 ms x s ks y

-- the control line s, given in the state x to the table ms, is refused

-- "A fault found in that reading gives its own number", with its place behind `$MACRO`
pub record Misread (ms : Table) (x : State) (s : List ℕ) (r : FileRefusal) (p : ℕ) : Type 0 where
  pub rest : List ℕ
  pub word : s ≡ bytes "$MACRO" ++ rest
  pub reads : read_onto_by x.entry_bytes ms rest ≡ refused_at r p

-- "else a count other than one gives 23"
pub record NotOne (ms : Table) (x : State) (s : List ℕ) : Type 0 where
  pub rest : List ℕ
  pub read : Table
  pub word : s ≡ bytes "$MACRO" ++ rest
  pub reads : read_onto_by x.entry_bytes ms rest ≡ table read
  pub not_one : (m : Macro) → read ≡ ms ++ (m ∷ []) → ⊥

-- "23 another word or value"
pub record Other (s : List ℕ) : Type 0 where
  pub no_macro : (rest : List ℕ) → s ≡ bytes "$MACRO" ++ rest → ⊥
  pub no_trace0 : s ≡ bytes "$TRACE 0" → ⊥
  pub no_trace1 : s ≡ bytes "$TRACE 1" → ⊥
  pub no_nflag0 : s ≡ bytes "$NFLAG 0" → ⊥
  pub no_nflag1 : s ≡ bytes "$NFLAG 1" → ⊥

-- why the control line s, given in the state x to the table ms, is refused with r
abbrev pub Misordered : Table → State → List ℕ → Refusal → Type 0
Misordered ms x s (of_file r p) = Misread ms x s r p
Misordered ms x s (of_line bad_control) = NotOne ms x s ⊎ Other s
-- a control line meets no other refusal
Misordered ms x s (of_line line_too_long) = ⊥
Misordered ms x s (of_line bad_byte) = ⊥
Misordered ms x s (of_host r) = ⊥
Misordered ms x s (of_work r) = ⊥

-- what an order says of the line that gave it
abbrev pub Says : Table → State → List ℕ → Order → Type 0
Says ms x s (wrong r) = Misordered ms x s r
Says ms x s (orders ks y) = Ordered ms x s ks y

-- THE LAW: of every table, state and text
abbrev pub OrderSays : Type 0
OrderSays = (ms : Table) (x : State) (s : List ℕ) → Says ms x s (order_of ms x s)

-- A file of macros, read onto a table: what reading it says of the machine.
use Rattle.std.specs.Prelude.{ℕ, ◌+◌, ◌-◌, ◌*◌, ◌≤◌, ◌<◌, ◌≡◌, false, List, ◌++◌, reverse, length, take, replicate}
use Rattle.std.specs.Prelude.{Option, Some, None, Result, Ok, Err}
use Rattle.macros.specs.Bounds.{most_macros}
use Rattle.macros.specs.Macro.{Macro, Table}
use Rattle.macros.specs.Read.{Read, read_from, read_onto}
use Rattle.macros.specs.ReadFile.Pending.{clear}
use Rattle.macros.specs.ReadFile.Reader.{between}
use Rattle.macros.specs.ReadFile.Read.{refused_at, table}
use Rattle.macros.specs.Accepted.{Accepted}
use Rattle.form_table.specs.Form.{slot_bytes, body_bytes, slot, slots, form}
use Rattle.read_scan.specs.Scan.{fault_of}
use Rattle.form_items.specs.Items.{Wrote}
use Rattle.read_scan.specs.declared.ReadError.{ReadError}
use Rattle.read_start.specs.Next.{next_from}
use Rattle.read_start.specs.Next.Coming.{macro_to as next_to, refused_at as next_refused_at, no_more}
use Rattle.read_macro.specs.OneMacro.{head_bytes, used_bytes}
use Rattle.read_macro.specs.declared.Head.{Head}
use Rattle.read_file.specs.declared.Stopped.{Stopped}

-- SLOTS

-- the slot of a head and the bytes that the items are in
abbrev pub slot_of : Head → List ℕ → List ℕ
slot_of h b = head_bytes h ++ (take (used_bytes h) b ++ replicate (body_bytes - used_bytes h) 0)

-- where the next macro may be stored, behind n others: a 97th is not
abbrev pub Room : (n base : ℕ) → List ℕ → Type 0
Room n base out = n < most_macros → base + slot_bytes ≤ length out

-- the next macro from p on, up to q, behind n others: it stands in the slot at base
pub record InSlot (s : List ℕ) (p n base : ℕ) (old out : List ℕ) (q : ℕ) : Type 0 where
  pub itself : Macro
  pub exact : (ms : List Macro) → length ms ≡ n → next_from s p ms ≡ next_to q itself
  pub wrote : Wrote old out base (slot itself)
  pub size : length (slot itself) ≡ slot_bytes
  pub few : n < most_macros
  pub further : p < q
  pub reached : q ≤ length s

-- what storing it says of the answer and of all lent bytes: a refusal and the file's end leave them as they were
abbrev pub NextSlot : List ℕ → (p n base : ℕ) → List ℕ → List ℕ → Result (Option ℕ) ReadError → Type 0
NextSlot s p n base old out (Ok (Some q)) = InSlot s p n base old out q
NextSlot s p n base old out (Ok None) = (out ≡ old) × ((ms : List Macro) → length ms ≡ n → next_from s p ms ≡ no_more)
NextSlot s p n base old out (Err e) =
    (out ≡ old) × ((ms : List Macro) → length ms ≡ n → next_from s p ms ≡ next_refused_at (fault_of e.fault) e.place)

-- A FILE

-- macros read behind any count, these newest first, and stored behind the slots of a table, so that it has n; what the machine then does
pub record Adds (s : List ℕ) (count : ℕ) (old out : List ℕ) (n : ℕ) (then : List Macro → Read) : Type 0 where
  pub added : List Macro
  pub counted : n ≡ count + length added
  pub few : n ≤ most_macros
  pub size : length (slots (reverse added)) ≡ slot_bytes * length added
  pub wrote : Wrote old out (slot_bytes * count) (slots (reverse added))
  pub answer : (ms : List Macro) → length ms ≡ count → read_from 0 (between false clear ms) s ≡ then (added ++ ms)

-- what reading all macros of a file says; a refusal leaves those before it stored
abbrev pub AddsFrom : List ℕ → ℕ → List ℕ → List ℕ → Result ℕ Stopped → Type 0
AddsFrom s c old out (Ok n) = Adds s c old out n (λ ms. table (reverse ms))
AddsFrom s c old out (Err e) = Adds s c old out e.macros (λ ms. refused_at (fault_of e.error.fault) e.error.place)

-- that the lent bytes are those of an accepted table of so many macros
pub record Lent (old : List ℕ) (c : ℕ) : Type 0 where
  pub itself : Table
  pub accepted : Accepted itself
  pub bytes : form itself ≡ old
  pub counted : length itself ≡ c

-- what reading a file onto a table says of every accepted table that has these bytes and so many macros
abbrev pub Onto : List ℕ → ℕ → List ℕ → List ℕ → Result ℕ ReadError → Type 0
Onto s c old out (Ok n) =
    (ms : Table) → Accepted ms → form ms ≡ old → length ms ≡ c → (ks : Table) × (read_onto ms s ≡ table ks) × (n ≡ length ks)
    × (form ks ≡ out)
Onto s c old out (Err e) =
    (ms : Table) → Accepted ms → form ms ≡ old → length ms ≡ c → (read_onto ms s ≡ refused_at (fault_of e.fault) e.place) × (out ≡ old)

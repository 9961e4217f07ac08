-- 01, part 2: reading a macro file, one byte after the other.
use Rattle.std.specs.Prelude.{ℕ, suc, ◌-◌, Bool, true, false, not, ◌&&◌, List, [], ◌∷◌, reverse, ltb, eqb, length}
use Rattle.std.proofs.Math.Option.{Option, none, some}
use Rattle.macros.specs.Quoted.{◌is◌}
use Rattle.macros.specs.Bounds.{most_file_bytes, most_macros, most_macro_bytes, most_entry_bytes}
use Rattle.macros.specs.Refusals.{FileRefusal}
use Rattle.macros.specs.Refusals.FileRefusal.{file_too_long, zero_byte, incomplete, macro_too_long, too_many_macros}
use Rattle.macros.specs.Macro.{Mark, Call, Action, Macro, Table, pick}
use Rattle.macros.specs.Macro.Mark.{stack, counter}
use Rattle.macros.specs.ReadSoFar.{Front, Part, Step}
use Rattle.macros.specs.ReadSoFar.Joinable.{nothing}
use Rattle.macros.specs.ReadSoFar.CallSite.{calls_so_far}
use Rattle.macros.specs.ReadSoFar.Phase.{begun}
use Rattle.macros.specs.ReadSoFar.Part.{pattern, calling}
use Rattle.macros.specs.ReadSoFar.Step.{on, opens, done, stop}
use Rattle.macros.specs.ReadParts.{part_byte_by, skips}

-- between macros: no `&` or `#` that a `(` may join; or one, and the bytes from it up to here, itself counted
pub data Pending : Type 0 where
  clear : Pending
  at_mark : Mark → (n : ℕ) → Pending

-- what was read before a macro's pattern: its own calls there, once the pattern is opened, and the macros before it; both newest first
pub record Prior : Type 0 where
  pub calls : List Call
  pub macros : List Macro

-- between macros, these newest first, or in one that has n bytes so far; skip: whether in a skip
pub data Reader : Type 0 where
  between : (skip : Bool) → Pending → List Macro → Reader
  inside : (skip : Bool) → (n : ℕ) → Part → Prior → Reader

-- what a byte of a file does: reading goes on; or it is refused, at this byte or n bytes before it
pub data Next : Type 0 where
  go : Reader → Next
  refuse : FileRefusal → Next
  refuse_before : FileRefusal → (n : ℕ) → Next

-- IN A MACRO

-- a macro's byte that shows no other fault: 18 if it is the 513th
unfoldable pub count : ℕ → Reader → Next
count n r = pick (ltb n most_macro_bytes) (go r) (refuse macro_too_long)

-- a macro of its parts, which stand newest first
unfoldable pub macro_of : List Call → Front → List Action → List Call → Macro
macro_of cs f as₁ ks =
    record { before = reverse cs; pattern = reverse f.pieces; symbol = f.symbol; replacement = reverse as₁; commands = reverse ks }

-- a macro's byte outside skips, n bytes standing before it: "the lowest number there", so 12 to 17 come before 18
unfoldable pub taken : ℕ → Prior → Step → Next
taken n pr (on st) = count n (inside false (suc n) st pr)
taken n pr (opens cs) = count n (inside false (suc n) (pattern nothing []) (record { calls = cs; macros = pr.macros }))
taken n pr (done f as₁ ks) = count n (between false clear (macro_of pr.calls f as₁ ks ∷ pr.macros))
taken n pr (stop r) = refuse r

-- BEFORE A PATTERN

-- a macro begins: none of its calls is read
abbrev pub no_calls : List Macro → Prior
no_calls ms = record { calls = []; macros = ms }

-- "Before a pattern only `'` and `/` count", and `&` or `#` with its `(` (02, N2); 19 at the 97th macro's first quote
unfoldable pub outside_fresh : List Macro → ℕ → Next
outside_fresh ms b =
    pick (b is "'") (pick (ltb (length ms) most_macros) (go (inside false 1 (pattern nothing []) (no_calls ms))) (refuse too_many_macros))
    (pick (b is "&") (go (between false (at_mark stack 1) ms))
    (pick (b is "#") (go (between false (at_mark counter 1) ms)) (go (between false clear ms))))

-- the `(` of a macro's first call, whose `&` or `#` stands n bytes before it: "The 512 bytes count from the first such call's `&` or `#`,
-- 19 shows there too"; the 513th byte, which gives 18, may stand before the `(`, in a skip
unfoldable pub first_call : Mark → (n : ℕ) → List Macro → Next
first_call m n ms =
    pick (ltb (length ms) most_macros)
    (pick (ltb n most_macro_bytes) (go (inside false (suc n) (calling (calls_so_far []) (begun m)) (no_calls ms)))
    (refuse_before macro_too_long (n - most_macro_bytes)))
    (refuse_before too_many_macros n)

-- a byte between macros, outside skips
unfoldable pub outside : Pending → List Macro → ℕ → Next
outside clear ms b = outside_fresh ms b
outside (at_mark m n) ms b = pick (b is "(") (first_call m n ms) (outside_fresh ms b)

-- a byte of a skip, behind a `&` or `#` whose `(` may still come
unfoldable pub further : Pending → Pending
further clear = clear
further (at_mark m n) = at_mark m (suc n)

-- ONE BYTE OF A FILE, with texts in calls of at most `longest` bytes
unfoldable pub step_by : (longest : ℕ) → Reader → ℕ → Next
step_by longest (between skip a ms) b =
    pick (b is "/") (go (between (not skip) (further a) ms)) (pick skip (go (between true (further a) ms)) (outside a ms b))
step_by longest (inside skip n st pr) b =
    pick (skips st && b is "/") (count n (inside (not skip) (suc n) st pr))
    (pick skip (count n (inside true (suc n) st pr)) (taken n pr (part_byte_by longest st b)))

-- with texts of at most 100 bytes
abbrev pub step : Reader → ℕ → Next
step = step_by most_entry_bytes

-- the macros, oldest first, or a refusal with its place
pub data Read : Type 0 where
  refused_at : FileRefusal → ℕ → Read
  table : Table → Read

-- the file's end, at place p: 12 in a macro or a skip
unfoldable pub at_end : ℕ → Reader → Read
at_end p (between skip a ms) = pick skip (refused_at incomplete p) (table (reverse ms))
at_end p (inside skip n st pr) = refused_at incomplete p

-- the bytes from place p on
unfoldable pub read_from_by : (longest : ℕ) → ℕ → Reader → List ℕ → Read
read_from_by longest p r [] = at_end p r
read_from_by longest p r (b ∷ bs) =
    elim (step_by longest r b) [
      | go r' ↦ read_from_by longest (suc p) r' bs
      | refuse k ↦ refused_at k p
      | refuse_before k n ↦ refused_at k (p - n)
    ]

-- with texts of at most 100 bytes
abbrev pub read_from : ℕ → Reader → List ℕ → Read
read_from = read_from_by most_entry_bytes

-- the place of the first byte 0, counted from p
unfoldable pub first_zero : ℕ → List ℕ → Option ℕ
first_zero p [] = none
first_zero p (b ∷ bs) = pick (eqb b 0) (some p) (first_zero (suc p) bs)

-- a file read onto a table: the table with the file's macros behind its own; "10 .., then 11 .., over the whole file first"
unfoldable pub read_onto_by : (longest : ℕ) → Table → List ℕ → Read
read_onto_by longest older s =
    pick (ltb most_file_bytes (length s)) (refused_at file_too_long most_file_bytes)
    (elim (first_zero 0 s) [ none ↦ read_from_by longest 0 (between false clear (reverse older)) s | some p ↦ refused_at zero_byte p ])

-- with texts of at most 100 bytes
abbrev pub read_onto : Table → List ℕ → Read
read_onto = read_onto_by most_entry_bytes

-- a macro file: "An empty file is a table without macros."
unfoldable pub read_file_by : (longest : ℕ) → List ℕ → Read
read_file_by longest s = read_onto_by longest [] s

-- with texts of at most 100 bytes
abbrev pub read_file : List ℕ → Read
read_file = read_file_by most_entry_bytes

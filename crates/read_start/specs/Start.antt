-- What refuses a file as a whole, and where its macros begin: what looking for them says of the machine.
use Rattle.std.specs.Prelude.{ℕ, ◌+◌, ◌-◌, ◌≤◌, ◌<◌, ◌≡◌, Bool, false, not, ◌&&◌, ◌||◌, List, [], eqb, ltb, length, get_or}
use Rattle.std.specs.Prelude.{Option, Some, None, Result, Ok, Err}
use Rattle.std.proofs.Math.Option.{none, some}
use Rattle.macros.specs.Bounds.{most_file_bytes, most_macros, most_macro_bytes}
use Rattle.macros.specs.Refusals.FileRefusal.{incomplete, macro_too_long, too_many_macros}
use Rattle.macros.specs.Macro.{Macro, pick}
use Rattle.macros.specs.Macro.Mark.{stack, counter}
use Rattle.macros.specs.Read.{Part, Pending, Prior, first_zero, no_calls}
use Rattle.macros.specs.ReadSoFar.Joinable.{nothing}
use Rattle.macros.specs.ReadSoFar.CallSite.{calls_so_far}
use Rattle.macros.specs.ReadSoFar.Phase.{begun}
use Rattle.macros.specs.ReadSoFar.Part.{pattern as patterning, calling}
use Rattle.macros.specs.ReadFile.Pending.{clear, at_mark}
use Rattle.read_scan.specs.Scan.{MacroRead, run}
use Rattle.read_scan.specs.Scan.MacroRead.{refused_at as none_at, pattern_to, macro_to}
use Rattle.read_call.specs.Call.{mark_of}
use Rattle.read_scan.specs.declared.FileFault.TheVariants.{FileTooLong, ZeroByte, Incomplete}
use Rattle.read_scan.specs.declared.ReadError.{ReadError}
use Rattle.read_start.specs.Next.{Coming, next_from}
use Rattle.read_start.specs.Next.Coming.{macro_to as next_to, refused_at as next_refused_at, no_more}

-- A WHOLE FILE

-- what refuses a file before its macros are read: "10 .., then 11 .., over the whole file first"
pub data WholeFile (s : List ℕ) : Result (Unit {0}) ReadError → Type 0 where
  plain : length s ≤ most_file_bytes → first_zero 0 s ≡ none → WholeFile s (Ok tt)
  long : most_file_bytes < length s → WholeFile s (Err (record { fault = FileTooLong; place = most_file_bytes }))
  zeroed : (q : ℕ) → length s ≤ most_file_bytes → first_zero 0 s ≡ some q → WholeFile s (Err (record { fault = ZeroByte; place = q }))

-- WHERE A MACRO BEGINS

-- the part that is open behind the byte b with which a macro begins: its first quote, or the `&` or `#` of a call before its pattern
unfoldable pub first_part : ℕ → Part
first_part b = pick (eqb b 39) (patterning nothing []) (calling (calls_so_far []) (begun (mark_of (eqb b 35))))

-- the macro that begins at a, from p on, which is behind its first quote or the `(` of its first call; a skip may stand before that `(`,
-- and the macro's 513th byte in it
unfoldable pub started : List ℕ → (a p : ℕ) → Prior → MacroRead
started s a p pr =
    pick (ltb most_macro_bytes (p - a)) (none_at macro_too_long (a + most_macro_bytes)) (run s a pr false p (first_part (get_or s a 0)))

-- BETWEEN MACROS

-- whether a byte is passed over: a slash, or any byte in a skip
abbrev pub over : ℕ → Bool → Bool
over b k = k || eqb b 47

-- whether a byte is the first quote of a macro
abbrev pub opens : ℕ → Bool → Bool
opens b k = not k && eqb b 39

-- whether a byte is `&` or `#`
abbrev pub is_mark : ℕ → Bool
is_mark b = eqb b 38 || eqb b 35

-- whether a byte is the `(` of a macro's first call, behind the byte l, the last one that was not passed over
abbrev pub opens_call : ℕ → Bool → ℕ → Bool
opens_call b k l = not k && (is_mark l && eqb b 40)

-- whether a skip is open behind a byte
abbrev pub turned : ℕ → Bool → Bool
turned b k = pick (eqb b 47) (not k) k

-- what the machine has at such a byte l, n bytes further on
unfoldable pub pending_of : ℕ → (n : ℕ) → Pending
pending_of l n = pick (eqb l 38) (at_mark stack n) (pick (eqb l 35) (at_mark counter n) clear)

-- reading one macro, as what comes next
unfoldable pub comes : MacroRead → Coming
comes (none_at c q) = next_refused_at c q
comes (pattern_to q ps o) = comes o
comes (macro_to q m) = next_to q m

-- the macro that begins at a, behind the macros ms: 19 behind 96
unfoldable pub started_behind : List ℕ → (a p : ℕ) → List Macro → Coming
started_behind s a p ms = pick (ltb (length ms) most_macros) (comes (started s a p (no_calls ms))) (next_refused_at too_many_macros a)

-- what looking for the next macro from p on says: it begins at a, and reading it goes on at v; or the file ends, in a skip or not
abbrev pub Seeks : List ℕ → ℕ → Result (Option (ℕ × ℕ)) ReadError → Type 0
Seeks s p (Ok (Some (a, v))) = (p ≤ a) × (a < v) × (v ≤ length s) × ((ms : List Macro) → next_from s p ms ≡ started_behind s a v ms)
Seeks s p (Ok None) = (ms : List Macro) → next_from s p ms ≡ no_more
Seeks s p (Err e) =
    (e.fault ≡ Incomplete) × (e.place ≡ length s) × ((ms : List Macro) → next_from s p ms ≡ next_refused_at incomplete (length s))

-- THE LAWS OF THE NEXT MACRO: a file is its next macro and what reading comes to behind it; where a refusal stands.
use Rattle.std.specs.Prelude.{ℕ, ◌≤◌, ◌≡◌, false, List, ◌∷◌, reverse, length, drop}
use Rattle.macros.specs.Refusals.{FileRefusal}
use Rattle.macros.specs.Macro.{Macro}
use Rattle.macros.specs.Read.{Read, read_from}
use Rattle.macros.specs.ReadFile.Pending.{clear}
use Rattle.macros.specs.ReadFile.Reader.{between}
use Rattle.macros.specs.ReadFile.Read.{refused_at as file_refused_at, table}
use Rattle.read_start.specs.Next.{Coming, next_from}
use Rattle.read_start.specs.Next.Coming.{macro_to, refused_at, no_more}

-- the file s, by what comes next behind the macros ms
unfoldable pub read_on : List ℕ → List Macro → Coming → Read
read_on s ms (macro_to q m) = read_from q (between false clear (m ∷ ms)) (drop q s)
read_on s ms (refused_at c q) = file_refused_at c q
read_on s ms no_more = table (reverse ms)

-- reading from a place between macros on
abbrev pub ReadNext : Type 0
ReadNext = (s : List ℕ) (p : ℕ) (ms : List Macro) → read_from p (between false clear ms) (drop p s) ≡ read_on s ms (next_from s p ms)

-- a refusal stands neither before that place nor behind the file's end
abbrev pub NextPlace : Type 0
NextPlace = (s : List ℕ) (p : ℕ) (ms : List Macro) (c : FileRefusal) (q : ℕ)
    → p ≤ length s → next_from s p ms ≡ refused_at c q → (p ≤ q) × (q ≤ length s)

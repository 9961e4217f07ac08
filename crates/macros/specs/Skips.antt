-- What is promised of skips (01, part 2: "`/` skips to the next `/` ..; the rest is read as if both and all between were not there").
-- SkipIsNothing is false with the edits skip_place_kept (a refusal behind a skip keeps its place), slash_in_skip and skip_to_space
-- (a skip is another than from `/` to the next `/`), and skips_in_class (a class is taken for a place where skips count).
use Rattle.std.specs.Prelude.{ℕ, ◌+◌, ◌≡◌, List, ◌++◌, ltb, length}
use Rattle.macros.specs.Quoted.{bytes}
use Rattle.macros.specs.Refusals.FileRefusal.{incomplete, macro_too_long}
use Rattle.macros.specs.Macro.{Table, pick}
use Rattle.macros.specs.ReadFile.{Read, read_onto}
use Rattle.macros.specs.ReadFile.Read.{refused_at, table}
pub use Rattle.macros.specs.Begins.{NoSlash, skip_over}
use Rattle.macros.specs.FirstFault.{Plain}

-- behind the bytes u skips count: a `/` there opens one, in which a `;` is no fault, so that only the file's end is at fault
abbrev pub SkipsCount : Table → List ℕ → Type 0
SkipsCount older u = read_onto older (u ++ bytes "/; ") ≡ refused_at incomplete (length u + 3)

-- an answer whose place, if it is a refusal at place n or behind it, stands k bytes further on. A refusal before it is one that shows with
-- the `(` behind it (02, N2): 19 at the `&` or `#` of that call, or 18
abbrev pub moved : (n k : ℕ) → Read → Read
moved n k (refused_at r p) = refused_at r (pick (ltb p n) p (p + k))
moved n k (table ms) = table ms

-- what reading comes to with k bytes put in at place n, by what it comes to without them
pub data ReadAlike (n k : ℕ) (without with : Read) : Type 0 where
  -- the same macros, or the same refusal, k places further on; one before place n stays where it was
  alike : with ≡ moved n k without → ReadAlike n k without with
  -- 18: the skip counts towards the 512 bytes of its macro
  too_long : (p : ℕ) → with ≡ refused_at macro_too_long p → ReadAlike n k without with

-- A skip may be put in wherever skips count, in a file that neither 10 nor 11 refuses then.
abbrev pub SkipIsNothing : Type 0
SkipIsNothing = (older : Table) (u t v : List ℕ) → SkipsCount older u → NoSlash t → Plain (u ++ (skip_over t ++ v))
    → ReadAlike (length u) (length (skip_over t)) (read_onto older (u ++ v)) (read_onto older (u ++ (skip_over t ++ v)))

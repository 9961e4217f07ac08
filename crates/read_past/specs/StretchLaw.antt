-- THE LAW OF A STRETCH AND THE NEXT MACRO: reading to the first refusal is reading the next macro, and so on behind it.
use Rattle.std.specs.Prelude.{ℕ, ◌≡◌, false, List, ◌∷◌, reverse, drop}
use Rattle.macros.specs.Macro.{Macro}
use Rattle.macros.specs.ReadFile.Pending.{clear}
use Rattle.macros.specs.ReadFile.Reader.{between}
use Rattle.faults.specs.Recover.{Stretch, stretch}
use Rattle.faults.specs.Recover.Stretch.{to_end, to_refusal}
use Rattle.read_start.specs.Next.{Coming, next_from}
use Rattle.read_start.specs.Next.Coming.{macro_to, refused_at, no_more}

-- the file s, by what comes next behind the macros ms, newest first
unfoldable pub stretch_on : List ℕ → List Macro → Coming → Stretch
stretch_on s ms (macro_to q m) = stretch q (between false clear (m ∷ ms)) (drop q s)
stretch_on s ms (refused_at c q) = to_refusal c q (reverse ms)
stretch_on s ms no_more = to_end (reverse ms)

-- from a place between macros on
abbrev pub StretchNext : Type 0
StretchNext = (s : List ℕ) (p : ℕ) (ms : List Macro) → stretch p (between false clear ms) (drop p s) ≡ stretch_on s ms (next_from s p ms)

-- 01, part 3: the chosen division, computed, "with the most repeats at the first closure, then at the second, and so on".
-- Whoever reads 01 against the definitions need not read this file: the law Choice states of every pattern, line, place and state that
-- the division found here is one of those of Matching and that every other one has fewer repeats at the first closure where they differ,
-- and that none is found only where there is none. Demand 3 speaks of the divisions alone.
use Rattle.std.specs.Prelude.{ℕ, zero, suc, ◌+◌, Bool, true, false, List, [], ◌∷◌, eqb, drop}
use Rattle.std.proofs.Math.Option.{Option, none, some}
use Rattle.macros.specs.Macro.{Closure, Piece}
use Rattle.macros.specs.Macro.Closure.{once, one_or_more, zero_or_more}
use Rattle.macros.specs.Macro.Piece.{element, start, end, left, right}
use Rattle.lines.specs.State.{State}
use Rattle.lines.specs.Matching.{fits, width, span, Division}

-- the division that the rest of the pattern has at a place from which the line has these bytes
abbrev pub Rest : Type 0
Rest = ℕ → List ℕ → Option Division

-- a span of n repeats that ends at q, before the division of the rest, if that has one
unfoldable pub then : ℕ → ℕ → Option Division → Option Division
then n q none = none
then n q (some d) = some (span n q ∷ d)

-- n copies end at p: one more first, as long as the list of spare bytes lasts, and else the rest of the pattern from here
unfoldable pub more : (List ℕ → Bool) → ℕ → Rest → List ℕ → ℕ → ℕ → List ℕ → Option Division
more fit w rest [] n p s = then n p (rest p s)
more fit w rest (x ∷ xs) n p s =
    elim (fit s) [
      | false ↦ then n p (rest p s)
      | true ↦ elim (more fit w rest xs (suc n) (p + w) (drop w s)) [ some d ↦ some d | none ↦ then n p (rest p s) ]
    ]

-- the bytes that further copies can take: none where a copy is empty
unfoldable pub spare : ℕ → List ℕ → List ℕ
spare zero s = []
spare (suc w) s = s

-- an element: as many copies as its closure allows, the most first
unfoldable pub repeated : Closure → (List ℕ → Bool) → ℕ → Rest → ℕ → List ℕ → Option Division
repeated once fit w rest p s = elim (fit s) [ true ↦ then 1 (p + w) (rest (p + w) (drop w s)) | false ↦ none ]
repeated one_or_more fit w rest p s = elim (fit s) [ true ↦ more fit w rest (spare w (drop w s)) 1 (p + w) (drop w s) | false ↦ none ]
repeated zero_or_more fit w rest p s = more fit w rest (spare w s) 0 p s

-- the line's end
unfoldable pub is_end : List ℕ → Bool
is_end [] = true
is_end (b ∷ bs) = false

-- the chosen division of the pieces at place p, from which the line has the bytes s
unfoldable pub chosen : State → List Piece → ℕ → List ℕ → Option Division
chosen st [] p s = some []
chosen st (element u c ∷ es) p s = repeated c (fits st u) (width st u) (chosen st es) p s
chosen st (start ∷ es) p s = elim (eqb p 0) [ true ↦ then 1 p (chosen st es p s) | false ↦ none ]
chosen st (end ∷ es) p s = elim (is_end s) [ true ↦ then 1 p (chosen st es p s) | false ↦ none ]
chosen st (left ∷ es) p s = then 1 p (chosen st es p s)
chosen st (right ∷ es) p s = then 1 p (chosen st es p s)

-- 01, part 3, "A tag runs from the end of what precedes its left brace to the end of what precedes its right.": the law of it.
-- It rules out must-fail/late_tag and must-fail/inner_brace_ends.
use Rattle.std.specs.Prelude.{◌≡◌, ℕ, zero, suc, List, [], ◌∷◌, ◌++◌, length, take}
use Rattle.std.proofs.Math.Seq.{slice}
use Rattle.macros.specs.Macro.{Piece, tags}
use Rattle.macros.specs.Macro.Piece.{element, start, end, left, right}
use Rattle.lines.specs.State.{State}
use Rattle.lines.specs.Matching.{Division, Divides, end_of, stops, tag_text}

-- the pieces close every brace that they open, and n more
abbrev pub Closes : ℕ → List Piece → Type 0
Closes zero [] = Unit {0}
Closes (suc n) [] = ⊥
Closes n (element u c ∷ es) = Closes n es
Closes n (start ∷ es) = Closes n es
Closes n (end ∷ es) = Closes n es
Closes n (left ∷ es) = Closes (suc n) es
Closes zero (right ∷ es) = ⊥
Closes (suc n) (right ∷ es) = Closes n es

-- where the first pieces of a pattern end, in a division d of it at place p
abbrev pub end_after : ℕ → List Piece → Division → ℕ
end_after p es d = end_of p (take (length es) d)

-- the tags of the division d of the pattern es at place p of the line t. Where a tag stands, front are the pieces before its left brace
-- and inside those between its braces: its text runs from the end of front to the end of what precedes its right brace.
-- Before it come as many tags as front has left braces.
abbrev pub TagsOf : List Piece → List ℕ → ℕ → Division → Type 0
TagsOf es t p d =
    (front inside back : List Piece) → es ≡ front ++ left ∷ (inside ++ right ∷ back) → Closes 0 inside
    → tag_text t (tags front) es (stops d) ≡ slice (end_after p front d) (end_after p (front ++ left ∷ inside) d) t

-- THE LAW: of every division
abbrev pub TagsRun : Type 0
TagsRun = (st : State) (t : List ℕ) (es : List Piece) (p : ℕ) (d : Division) → Divides st t es p d → TagsOf es t p d

-- The law of specs/Tags: where the text of a tag begins and ends.
use mathlib.Core.Path.{◌≡◌, ap, ◌∙◌, subst}
use Prim.Native.Nat.{ℕ, zero, suc}
use mathlib.Core.List.{List, [], ◌∷◌, ◌++◌}
use lib.Seq.{slice}
use Rattle.macros.specs.Macro.{Piece, tags}
use Rattle.macros.specs.Macro.Piece.{element, start, end, left, right}
use Rattle.lines.specs.State.{State}
use Rattle.lines.specs.Matching.{span, Division, Satisfies, Divides, end_of, stops, closing, tag_text}
use Rattle.lines.specs.Tags.{Closes, end_after, TagsRun}

closing_ends : (st : State) (t : List ℕ) (n : ℕ) (inside back : List Piece) (p : ℕ) (d : Division) → Closes n inside → Divides st t (inside ++ right ∷ back) p d
    → closing n (inside ++ right ∷ back) (stops d) ≡ end_after p inside d
unfolding closing Divides Satisfies end_of
closing_ends st t zero [] back p [] c h = absurd h
closing_ends st t zero [] back p (span k q ∷ d) c h = h.0.1
closing_ends st t (suc n) [] back p d c h = absurd c
closing_ends st t n (e ∷ es) back p [] c h = absurd h
closing_ends st t n (element u x ∷ es) back p (span k q ∷ d) c h = closing_ends st t n es back q d c h.1
closing_ends st t n (start ∷ es) back p (span k q ∷ d) c h = closing_ends st t n es back q d c h.1
closing_ends st t n (end ∷ es) back p (span k q ∷ d) c h = closing_ends st t n es back q d c h.1
closing_ends st t n (left ∷ es) back p (span k q ∷ d) c h = closing_ends st t (suc n) es back q d c h.1
closing_ends st t zero (right ∷ es) back p (span k q ∷ d) c h = absurd c
closing_ends st t (suc n) (right ∷ es) back p (span k q ∷ d) c h = closing_ends st t n es back q d c h.1

tag_at : (st : State) (t : List ℕ) (front inside back : List Piece) (p : ℕ) (d : Division) → Closes 0 inside → Divides st t (front ++ left ∷ (inside ++ right ∷ back)) p d
    → tag_text t (tags front) (front ++ left ∷ (inside ++ right ∷ back)) (stops d) ≡ slice (end_after p front d) (end_after p (front ++ left ∷ inside) d) t
unfolding tag_text tags Divides Satisfies end_of
tag_at st t [] inside back p [] c h = absurd h
tag_at st t [] inside back p (span k q ∷ d) c h =
    ap (λ (a : ℕ). slice a (closing 0 (inside ++ right ∷ back) (stops d)) t) h.0.1 ∙ ap (λ (b : ℕ). slice p b t) (closing_ends st t 0 inside back q d c h.1)
tag_at st t (e ∷ es) inside back p [] c h = absurd h
tag_at st t (element u x ∷ es) inside back p (span k q ∷ d) c h = tag_at st t es inside back q d c h.1
tag_at st t (start ∷ es) inside back p (span k q ∷ d) c h = tag_at st t es inside back q d c h.1
tag_at st t (end ∷ es) inside back p (span k q ∷ d) c h = tag_at st t es inside back q d c h.1
tag_at st t (left ∷ es) inside back p (span k q ∷ d) c h = tag_at st t es inside back q d c h.1
tag_at st t (right ∷ es) inside back p (span k q ∷ d) c h = tag_at st t es inside back q d c h.1

-- THE LAW
pub tags_run : TagsRun
tags_run st t es p d h front inside back e c =
    ap (λ (x : List Piece). tag_text t (tags front) x (stops d)) e ∙ tag_at st t front inside back p d c (subst (λ (x : List Piece). Divides st t x p d) e h)

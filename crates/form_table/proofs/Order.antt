-- Pieces from either end: what holds newest first, said oldest first.
use mathlib.Core.Path.{◌≡◌}
use mathlib.Core.List.{List, [], ◌∷◌, reverse, reverse_aux}
use Prim.Native.Nat.{◌+◌, ◌≤◌}
use native.Mathlib.Omega.{arith}
use Rattle.macros.specs.Bounds.{most_tags}
use Rattle.macros.specs.Macro.{Piece, tags}
use Rattle.macros.specs.Macro.Piece.{element, start, end, left, right}
use Rattle.macros.specs.Formed.{FormedPieces}

-- the older pieces of well formed ones
pub older : (p : Piece) (ps : List Piece) → FormedPieces (p ∷ ps) → FormedPieces ps
older (element u c) ps f = f.1
older start ps f = f
older end ps f = f
older left ps f = f.1
older right ps f = f.1

pub oldest : (ps qs : List Piece) → FormedPieces (reverse_aux ps qs) → FormedPieces qs
oldest [] qs f = f
oldest (p ∷ ps) qs f = older p qs (oldest ps (p ∷ qs) f)

-- at most 99 tags
pub few_tags : (ps : List Piece) → FormedPieces ps → tags ps ≤ most_tags
unfolding tags
few_tags [] f = omega arith
few_tags (element u c ∷ ps) f = few_tags ps f.1
few_tags (start ∷ ps) f = few_tags ps f
few_tags (end ∷ ps) f = few_tags ps f
few_tags (left ∷ ps) f = f.0
few_tags (right ∷ ps) f = few_tags ps f.1

tags_onto : (ps qs : List Piece) → tags (reverse_aux ps qs) ≡ tags ps + tags qs
unfolding tags
tags_onto [] qs = omega arith
tags_onto (element u c ∷ ps) qs = tags_onto ps (element u c ∷ qs)
tags_onto (start ∷ ps) qs = tags_onto ps (start ∷ qs)
tags_onto (end ∷ ps) qs = tags_onto ps (end ∷ qs)
tags_onto (left ∷ ps) qs = omega (arith, tags_onto ps (left ∷ qs))
tags_onto (right ∷ ps) qs = tags_onto ps (right ∷ qs)

pub tags_reverse : (ps : List Piece) → tags (reverse ps) ≡ tags ps
unfolding tags
tags_reverse ps = omega (arith, tags_onto ps [])

-- What a test decides: a choice by its two cases, and a number between two others.
use Prim.Native.Nat.{ℕ}
use mathlib.Core.Path.{◌≡◌, refl}
use mathlib.Core.Bool.{Bool, true, false, ◌&&◌}
use borrow.Author.Tests.{leb-true}
use lib.Dec.{leb}
use Rattle.macros.specs.Macro.{pick, within}
use Rattle.macros.specs.Formed.{Between}

pub by_pick : {A : Type 0} (P : A → Type 0) (c : Bool) (x y : A) → (c ≡ true → P x) → (c ≡ false → P y) → P (pick c x y)
unfolding pick
by_pick P true x y h g = h refl
by_pick P false x y h g = g refl

pub by_elim : {A : Type 0} (P : A → Type 0) (c : Bool) (x y : A) → (c ≡ true → P x) → (c ≡ false → P y) → P (elim c [ true ↦ x | false ↦ y ])
by_elim P true x y h g = h refl
by_elim P false x y h g = g refl

and_both : (a b : Bool) → (a && b) ≡ true → (a ≡ true) × (b ≡ true)
and_both true b e = (refl, e)
and_both false b e = (e, cc)

pub within_between : (a z n : ℕ) → within a z n ≡ true → Between a z n
unfolding within
within_between a z n e = let h = and_both (leb a n) (leb n z) e in (leb-true a n h.0, leb-true n z h.1)

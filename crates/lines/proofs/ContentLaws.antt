-- What matches depends on the stacks and the counters of a state alone.
use Prim.Native.Nat.{ℕ}
use mathlib.Core.Path.{◌≡◌, refl, ap}
use mathlib.Core.Bool.{true, false}
use mathlib.Core.List.{List, [], ◌∷◌}
use mathlib.Core.Option.{Option, none}
use lib.Dec.{eqb}
use lib.ListN.{length}
use Rattle.macros.specs.Macro.{PatternUnit, Piece, Mark}
use Rattle.macros.specs.Macro.PatternUnit.{literal, kind, class, call_of}
use Rattle.macros.specs.Macro.Piece.{element, start, end, left, right}
use Rattle.macros.specs.Macro.Mark.{stack, counter}
use Rattle.lines.specs.State.{State, Stack, Counter, stack_of, counter_of, current_entry, contents}
use Rattle.lines.specs.Matching.{Division, begins, fits, width}
use Rattle.lines.specs.Choosing.{then, repeated, is_end, chosen}
use Rattle.lines.specs.Pass.{counting, match}

module _ (x y : State) (s : x.stacks ≡ y.stacks) (c : x.counters ≡ y.counters) where
  pub contents_same : (m : Mark) (i : ℕ) → contents x m i ≡ contents y m i
  unfolding contents current_entry stack_of counter_of
  contents_same stack i = rw s refl
  contents_same counter i = rw c refl

  fits_same : (u : PatternUnit) (t : List ℕ) → fits x u t ≡ fits y u t
  unfolding fits
  fits_same (literal b) t = refl
  fits_same (kind k) t = refl
  fits_same (class neg ms) t = refl
  fits_same (call_of m i) t = ap (λ (e : List ℕ). begins e t) (contents_same m i)

  width_same : (u : PatternUnit) → width x u ≡ width y u
  unfolding width
  width_same (literal b) = refl
  width_same (kind k) = refl
  width_same (class neg ms) = refl
  width_same (call_of m i) = ap length (contents_same m i)

  chosen_same : (es : List Piece) → chosen x es ≡ chosen y es
  unfolding chosen
  chosen_same [] = refl
  chosen_same (element u k ∷ es) =
      let f : fits x u ≡ fits y u = λ i t. fits_same u t i in
      let w = width_same u in
      let ih = chosen_same es in
      λ i p t. repeated k (f i) (w i) (ih i) p t
  chosen_same (start ∷ es) = let ih = chosen_same es in λ i p t. elim (eqb p 0) [ true ↦ then 1 p (ih i p t) | false ↦ none ]
  chosen_same (end ∷ es) = let ih = chosen_same es in λ i p t. elim (is_end t) [ true ↦ then 1 p (ih i p t) | false ↦ none ]
  chosen_same (left ∷ es) = let ih = chosen_same es in λ i p t. then 1 p (ih i p t)
  chosen_same (right ∷ es) = let ih = chosen_same es in λ i p t. then 1 p (ih i p t)

  pub match_same : (es : List Piece) (last : Option ℕ) (p : ℕ) (t : List ℕ) → match x es last p t ≡ match y es last p t
  unfolding match
  match_same es last p t = ap (λ (f : ℕ → List ℕ → Option Division). counting last p (f p t)) (chosen_same es)

-- A copy of a unit ends within the line; so do spans and divisions, and these go on, never back.
use mathlib.Core.Path.{◌≡◌, refl}
use mathlib.Core.Bool.{Bool, true, false, false≢true}
use mathlib.Core.Logic.{◌⊎◌, inl, inr}
use mathlib.Core.List.{List, [], ◌∷◌}
use Prim.Native.Nat.{ℕ, zero, suc, ◌+◌, ◌-◌, ◌*◌, ◌≤◌}
use native.Mathlib.Nat.{suc-mul, zero-mul}
use native.Mathlib.Omega.{arith}
use lib.Dec.{eqb}
use lib.ListN.{length, drop, length-drop}
use Rattle.kinds.specs.Kind.{kind_of}
use Rattle.macros.specs.Macro.{PatternUnit, Piece}
use Rattle.macros.specs.Macro.PatternUnit.{literal, kind, class, call_of}
use Rattle.macros.specs.Macro.Piece.{element, start, end, left, right}
use Rattle.lines.specs.State.{State, contents}
use Rattle.lines.specs.Matching.{byte_fits, begins, in_class, fits, width, Copies, span, Division, Satisfies, Divides, end_of}

if_true : (x y : Bool) → (elim x [ true ↦ y | false ↦ false ]) ≡ true → y ≡ true
if_true true y e = e
if_true false y e = absurd (false≢true e)

begins_long : (cs s : List ℕ) → begins cs s ≡ true → length cs ≤ length s
unfolding begins
begins_long [] s e = omega arith
begins_long (c ∷ cs) [] e = absurd (false≢true e)
begins_long (c ∷ cs) (b ∷ bs) e = let h : length cs ≤ length bs = begins_long cs bs (if_true (eqb c b) _ e) in omega arith

byte_long : (f : ℕ → Bool) (s : List ℕ) → byte_fits f s ≡ true → 1 ≤ length s
unfolding byte_fits
byte_long f [] e = absurd (false≢true e)
byte_long f (b ∷ bs) e = omega arith

pub fits_inside : (st : State) (u : PatternUnit) (s : List ℕ) → fits st u s ≡ true → width st u ≤ length s
unfolding fits width
fits_inside st (literal c) s e = byte_long (eqb c) s e
fits_inside st (kind n) s e = byte_long (kind_of n) s e
fits_inside st (class neg ms) s e = byte_long (in_class neg ms) s e
fits_inside st (call_of m i) s e = begins_long (contents st m i) s e

pub wide_or_not : (w : ℕ) → (w ≡ 0) ⊎ (1 ≤ w)
wide_or_not zero = inl refl
wide_or_not (suc w) = inr (omega arith)

module _ (st : State) (t : List ℕ) where
  pub span_on : (e : Piece) (p n q : ℕ) → Satisfies st t e p n q → p ≤ q
  unfolding Satisfies
  span_on (element u c) p n q h = omega arith
  span_on start p n q h = omega arith
  span_on end p n q h = omega arith
  span_on left p n q h = omega arith
  span_on right p n q h = omega arith

  pub ends_on : (es : List Piece) (p : ℕ) (d : Division) → Divides st t es p d → p ≤ end_of p d
  unfolding Divides end_of
  ends_on [] p [] h = omega arith
  ends_on [] p (x ∷ d) h = absurd h
  ends_on (e ∷ es) p [] h = absurd h
  ends_on (e ∷ es) p (span n q ∷ d) h =
      let a : p ≤ q = span_on e p n q h.0 in
      let b : q ≤ end_of q d = ends_on es q d h.1 in
      omega arith

  copies_inside : (u : PatternUnit) (n p : ℕ) → p ≤ length t → Copies st u t n p → p + n * width st u ≤ length t
  unfolding Copies
  copies_inside u zero p l h = let z : 0 * width st u ≡ 0 = zero-mul (width st u) in omega arith
  copies_inside u (suc n) p l h =
      let a : width st u ≤ length (drop p t) = fits_inside st u (drop p t) h.0 in
      let b : length (drop p t) ≡ length t - p = length-drop p t in
      let c : p + width st u + n * width st u ≤ length t = copies_inside u n (p + width st u) (omega arith) h.1 in
      let z : suc n * width st u ≡ n * width st u + width st u = suc-mul n (width st u) in
      omega arith

  span_inside : (e : Piece) (p n q : ℕ) → p ≤ length t → Satisfies st t e p n q → q ≤ length t
  unfolding Satisfies
  span_inside (element u c) p n q l h = let a : p + n * width st u ≤ length t = copies_inside u n p l h.1 in omega arith
  span_inside start p n q l h = omega arith
  span_inside end p n q l h = omega arith
  span_inside left p n q l h = omega arith
  span_inside right p n q l h = omega arith

  pub ends_inside : (es : List Piece) (p : ℕ) (d : Division) → p ≤ length t → Divides st t es p d → end_of p d ≤ length t
  unfolding Divides end_of
  ends_inside [] p [] l h = l
  ends_inside [] p (x ∷ d) l h = absurd h
  ends_inside (e ∷ es) p [] l h = absurd h
  ends_inside (e ∷ es) p (span n q ∷ d) l h = ends_inside es q d (span_inside e p n q l h.0) h.1

-- The match at a place: the chosen division if it counts; where there is no match, no division counts.
use mathlib.Core.Path.{◌≡◌, refl, sym, ap, ◌∙◌, subst}
use mathlib.Core.Bool.{Bool, true, false, false≢true, ◌&&◌}
use mathlib.Core.Logic.{◌⊎◌, inl, inr}
use mathlib.Core.List.{List, [], ◌∷◌}
use mathlib.Core.Option.{Option, none, some}
use Prim.Native.Nat.{ℕ, zero, suc, ◌*◌, ◌≤◌, ◌<◌}
use native.Mathlib.Nat.{le-mul_of_pos_right}
use native.Mathlib.Omega.{arith}
use borrow.Author.Tests.{eqb-true, eq-eqb}
use lib.Dec.{eqb}
use lib.ListN.{drop}
use Rattle.macros.specs.Macro.{Closure, Piece}
use Rattle.macros.specs.Macro.Closure.{once, one_or_more, zero_or_more}
use Rattle.macros.specs.Macro.Piece.{element, start, end, left, right}
use Rattle.lines.specs.State.{State}
use Rattle.lines.specs.Matching.{width, Allowed, span, Division, Satisfies, Divides, end_of, Fewer}
use Rattle.lines.specs.Choosing.{chosen}
use Rattle.lines.specs.Pass.{barred, unless_barred, counting, match}
use Rattle.lines.specs.Choice.{Chosen}
use Rattle.lines.specs.Demand.{Counts}
use Rattle.lines.proofs.CopyLaws.{wide_or_not, span_on, ends_on}
use Rattle.lines.proofs.ChoiceLaws.{choice, span_same}

-- no division has fewer repeats than an empty one
same_empty : (c : Closure) (w m n : ℕ) → w ≡ 0 → Allowed c w m → Allowed c w n → m ≡ n
unfolding Allowed
same_empty once w m n z a b = omega arith
same_empty one_or_more zero m n z a b = omega arith
same_empty one_or_more (suc w) m n z a b = absurd (omega arith)
same_empty zero_or_more zero m n z a b = omega arith
same_empty zero_or_more (suc w) m n z a b = absurd (omega arith)

module _ (st : State) (t : List ℕ) where
  span_empty : (e : Piece) (p n q m r : ℕ) → Satisfies st t e p n q → q ≡ p → Satisfies st t e p m r → m < n → ⊥
  unfolding Satisfies
  span_empty (element u c) p n q m r h z g l = go (wide_or_not (width st u))
    where
      go : (width st u ≡ 0) ⊎ (1 ≤ width st u) → ⊥
      go (inl y) = let a : m ≡ n = same_empty c (width st u) m n y g.0 h.0 in omega arith
      go (inr y) = let a : n ≤ n * width st u = le-mul_of_pos_right n y in omega arith
  span_empty start p n q m r h z g l = omega arith
  span_empty end p n q m r h z g l = omega arith
  span_empty left p n q m r h z g l = omega arith
  span_empty right p n q m r h z g l = omega arith

  empty_fewer : (es : List Piece) (p : ℕ) (d x : Division) → Divides st t es p d → Divides st t es p x → end_of p d ≡ p → Fewer x d → ⊥
  unfolding Divides end_of Fewer
  empty_fewer [] p d [] h g z f = f
  empty_fewer [] p d (y ∷ x) h g z f = g
  empty_fewer (e ∷ es) p [] x h g z f = h
  empty_fewer (e ∷ es) p (span n q ∷ d) [] h g z f = g
  empty_fewer (e ∷ es) p (span n q ∷ d) (span m r ∷ x) h g z f = go f (λ k. empty_fewer es q d x h.1 k (z ∙ sym at))
    where
      at : q ≡ p
      at =
          let a : p ≤ q = span_on st t e p n q h.0 in
          let b : q ≤ end_of q d = ends_on st t es q d h.1 in
          omega arith

      go : (m < n) ⊎ ((m ≡ n) × Fewer x d) → (Divides st t es q x → Fewer x d → ⊥) → ⊥
      go (inl l) ih = span_empty e p n q m r h.0 at g.0 l
      go (inr l) ih = ih (subst (λ (j : ℕ). Divides st t es j x) (span_same st t e p n q m r h.0 g.0 l.0) g.1) l.1

-- which divisions count
both : (x y : Bool) → (x && y) ≡ true → (x ≡ true) × (y ≡ true)
both true true e = (refl, refl)
both true false e = absurd (false≢true e)
both false y e = absurd (false≢true e)

barred_true : (last : Option ℕ) (p q : ℕ) → barred last p q ≡ true → (last ≡ some p) × (q ≡ p)
unfolding barred
barred_true none p q h = absurd (false≢true h)
barred_true (some l) p q h = (ap some (eqb-true l p (both (eqb l p) (eqb q p) h).0), eqb-true q p (both (eqb l p) (eqb q p) h).1)

barred_both : (p : ℕ) → barred (some p) p p ≡ true
unfolding barred
barred_both p = rw (eq-eqb p p refl)

barred_false : (last : Option ℕ) (p : ℕ) (d : Division) → barred last p (end_of p d) ≡ false → Counts last p d
barred_false last p d h e f = false≢true (sym h ∙ rw (e, f) (barred_both p))

-- what it is to be the match among the divisions D at place p
abbrev pub Matches : (Division → Type 0) → Option ℕ → ℕ → Option Division → Type 0
Matches D last p (some d) = D d × Counts last p d × ((x : Division) → D x → (x ≡ d) ⊎ Fewer x d)
Matches D last p none = (x : Division) → D x → Counts last p x → ⊥

module _ (st : State) (es : List Piece) (t : List ℕ) (last : Option ℕ) (p : ℕ) where
  unless_matches : (d : Division) → Chosen (Divides st t es p) (some d) → (b : Bool) → barred last p (end_of p d) ≡ b → Matches (Divides st t es p) last p (unless_barred b d)
  unfolding unless_barred
  unless_matches d h true e = λ x g c. go x g c (h.1 x g)
    where
      go : (x : Division) → Divides st t es p x → Counts last p x → (x ≡ d) ⊎ Fewer x d → ⊥
      go x g c (inl z) = c (barred_true last p (end_of p d) e).0 (ap (end_of p) z ∙ (barred_true last p (end_of p d) e).1)
      go x g c (inr f) = empty_fewer st t es p d x h.0 g (barred_true last p (end_of p d) e).1 f
  unless_matches d h false e = (h.0, barred_false last p d e, h.1)

  counting_matches : (a : Option Division) → Chosen (Divides st t es p) a → Matches (Divides st t es p) last p (counting last p a)
  unfolding counting
  counting_matches none h = λ x g c. h x g
  counting_matches (some d) h = unless_matches d h (barred last p (end_of p d)) refl

  -- THE LAW
  pub match_matches : Matches (Divides st t es p) last p (match st es last p (drop p t))
  unfolding match
  match_matches = counting_matches (chosen st es p (drop p t)) (choice st t es p)

-- The laws of specs/Choice: the chooser chooses among the divisions, and the repeats tell two divisions apart.
use mathlib.Core.Path.{◌≡◌, refl, ap, subst}
use mathlib.Core.Bool.{Bool, true, false, false≢true}
use mathlib.Core.Logic.{◌⊎◌, inl}
use mathlib.Core.List.{List, [], ◌∷◌}
use mathlib.Core.Option.{Option, none}
use Prim.Native.Nat.{ℕ, ◌-◌, ◌*◌, ◌≤◌}
use native.Mathlib.Omega.{arith}
use borrow.Author.Tests.{eqb-true, eq-eqb}
use lib.Dec.{eqb}
use lib.ListN.{length, drop, length-drop, drop_of_length-le}
use Rattle.macros.specs.Macro.{Piece}
use Rattle.macros.specs.Macro.Piece.{element, start, end, left, right}
use Rattle.lines.specs.State.{State}
use Rattle.lines.specs.Matching.{fits, width, span, Division, Satisfies, Divides, Fewer}
use Rattle.lines.specs.Choosing.{then, repeated, is_end, chosen}
use Rattle.lines.specs.Choice.{Chosen, Choice, repeats, SameRepeats}
use Rattle.lines.proofs.ClosureLaws.{chosen_iff, Only, then_chosen, First, repeated_chosen}

-- where P and Q are the same of a span and what follows it, they are chosen among alike
by_span : (P Q : Division → Type 0) → (P [] → Q []) → (Q [] → P []) → ((n q : ℕ) (d : Division) → P (span n q ∷ d) → Q (span n q ∷ d))
    → ((n q : ℕ) (d : Division) → Q (span n q ∷ d) → P (span n q ∷ d)) → (a : Option Division) → Chosen P a → Chosen Q a
by_span P Q nil lin cons snoc = chosen_iff P Q to from
  where
    to : (d : Division) → P d → Q d
    to [] h = nil h
    to (span n q ∷ d) h = cons n q d h

    from : (d : Division) → Q d → P d
    from [] h = lin h
    from (span n q ∷ d) h = snoc n q d h

-- a piece of width zero that stands where C holds, and then D
abbrev Here : Type 0 → (ℕ → Division → Type 0) → ℕ → Division → Type 0
Here C D p [] = ⊥
Here C D p (span n q ∷ d) = (C × (n ≡ 1) × (q ≡ p)) × D q d

module _ (C : Type 0) (D : ℕ → Division → Type 0) (p : ℕ) (a : Option Division) (h : Chosen (D p) a) where
  here_true : C → Chosen (Here C D p) (then 1 p a)
  here_true c = by_span (Only D 1 p) (Here C D p) (λ g. g) (λ g. g) (λ n q d g. ((c, g.0, g.1), g.2)) (λ n q d g. (g.0.1, g.0.2, g.1)) (then 1 p a) (then_chosen D 1 p a h)

  here_false : (C → ⊥) → (d : Division) → Here C D p d → ⊥
  here_false f [] g = g
  here_false f (span n q ∷ d) g = f g.0.0

  here_chosen : (b : Bool) → (b ≡ true → C) → (C → b ≡ true) → Chosen (Here C D p) (elim b [ true ↦ then 1 p a | false ↦ none ])
  here_chosen true holds only = here_true (holds refl)
  here_chosen false holds only = here_false (λ c. false≢true (only c))

-- the line's end
end_only : (t : List ℕ) (p : ℕ) (s : List ℕ) → drop p t ≡ s → is_end s ≡ true → length t ≤ p
unfolding is_end
end_only t p [] e h =
    let a : length (drop p t) ≡ length t - p = length-drop p t in
    let b : length (drop p t) ≡ 0 = ap length e in
    omega arith
end_only t p (b ∷ s) e h = absurd (false≢true h)

end_there : (t : List ℕ) (p : ℕ) → length t ≤ p → is_end (drop p t) ≡ true
unfolding is_end
end_there t p l = rw (drop_of_length-le t {i = p} l)

-- THE LAW
pub choice : Choice
unfolding chosen Divides Satisfies
choice st t [] p = (tt, only)
  where
    only : (d : Division) → Divides st t [] p d → (d ≡ []) ⊎ Fewer d []
    only [] h = inl refl
    only (x ∷ d) h = absurd h
choice st t (element u c ∷ es) p =
    by_span (First st u t (Divides st t es) c p) (Divides st t (element u c ∷ es) p) (λ h. h) (λ h. h) (λ n q d h. h) (λ n q d h. h)
    (repeated c (fits st u) (width st u) (chosen st es) p (drop p t)) (repeated_chosen st u t (Divides st t es) (chosen st es) (choice st t es) p c)
choice st t (start ∷ es) p =
    by_span (Here (p ≡ 0) (Divides st t es) p) (Divides st t (start ∷ es) p) (λ h. h) (λ h. h) (λ n q d h. h) (λ n q d h. h) (chosen st (start ∷ es) p (drop p t))
    (here_chosen (p ≡ 0) (Divides st t es) p (chosen st es p (drop p t)) (choice st t es p) (eqb p 0) (eqb-true p 0) (eq-eqb p 0))
choice st t (end ∷ es) p =
    by_span (Here (length t ≤ p) (Divides st t es) p) (Divides st t (end ∷ es) p) (λ h. h) (λ h. h) (λ n q d h. h) (λ n q d h. h) (chosen st (end ∷ es) p (drop p t))
    (here_chosen (length t ≤ p) (Divides st t es) p (chosen st es p (drop p t)) (choice st t es p) (is_end (drop p t)) (end_only t p (drop p t) refl) (end_there t p))
choice st t (left ∷ es) p =
    by_span (Here (Unit {0}) (Divides st t es) p) (Divides st t (left ∷ es) p) (λ h. h) (λ h. h) (λ n q d h. ((h.0.1, h.0.2), h.1)) (λ n q d h. ((tt, h.0.0, h.0.1), h.1))
    (then 1 p (chosen st es p (drop p t))) (here_true (Unit {0}) (Divides st t es) p (chosen st es p (drop p t)) (choice st t es p) tt)
choice st t (right ∷ es) p =
    by_span (Here (Unit {0}) (Divides st t es) p) (Divides st t (right ∷ es) p) (λ h. h) (λ h. h) (λ n q d h. ((h.0.1, h.0.2), h.1)) (λ n q d h. ((tt, h.0.0, h.0.1), h.1))
    (then 1 p (chosen st es p (drop p t))) (here_true (Unit {0}) (Divides st t es) p (chosen st es p (drop p t)) (choice st t es p) tt)

-- as many repeats of the same piece from the same place end at the same place
pub span_same : (st : State) (t : List ℕ) (e : Piece) (p n q m r : ℕ) → Satisfies st t e p n q → Satisfies st t e p m r → m ≡ n → r ≡ q
unfolding Satisfies
span_same st t (element u c) p n q m r h g l = let a : m * width st u ≡ n * width st u = ap (λ (j : ℕ). j * width st u) l in omega arith
span_same st t start p n q m r h g l = omega arith
span_same st t end p n q m r h g l = omega arith
span_same st t left p n q m r h g l = omega arith
span_same st t right p n q m r h g l = omega arith

-- THE LAW
pub same_repeats : SameRepeats
unfolding Divides
same_repeats st t [] p [] [] h g e = refl
same_repeats st t [] p [] (y ∷ x) h g e = absurd g
same_repeats st t [] p (z ∷ d) x h g e = absurd h
same_repeats st t (k ∷ es) p [] x h g e = absurd h
same_repeats st t (k ∷ es) p (span n q ∷ d) [] h g e = absurd g
same_repeats st t (k ∷ es) p (span n q ∷ d) (span m r ∷ x) h g e =
    let a : m ≡ n = cc in
    let b : repeats d ≡ repeats x = cc in
    let c : r ≡ q = span_same st t k p n q m r h.0 g.0 a in
    let f : d ≡ x = same_repeats st t es q d x h.1 (subst (λ (j : ℕ). Divides st t es j x) c g.1) b in
    cc

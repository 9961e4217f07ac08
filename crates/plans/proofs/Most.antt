-- The most that any macro has.
-- Assumes nothing.
use mathlib.Core.Path.{◌≡◌, refl, sym, ◌∙◌}
use mathlib.Core.Bool.{Bool, true, false}
use mathlib.Core.Logic.{inl, inr}
use mathlib.Core.List.{List, [], ◌∷◌}
use Prim.Native.Nat.{ℕ, ◌≤◌}
use native.Mathlib.Omega.{arith}
use lib.Dec.{ltb}
use borrow.Author.Tests.{ltb-true, ltb-false}
use Rattle.macros.specs.Macro.{Macro, Table, pick}
use Rattle.plans.specs.Measure.{larger, most}
use Rattle.plans.specs.MeasureLaw.{OneOf, IsMost}

-- the larger of two is one of them, and neither is larger
pub data Larger (a b : ℕ) : ℕ → Type 0 where
  first : b ≤ a → Larger a b a
  second : a ≤ b → Larger a b b

pub larger_is : (a b : ℕ) → Larger a b (larger a b)
unfolding larger
larger_is a b = by (ltb a b) refl
  where
    by : (x : Bool) → ltb a b ≡ x → Larger a b (pick x b a)
    by true e = unfold pick in let l = ltb-true a b e in second (omega arith)
    by false e = unfold pick in first (ltb-false a b e)

nothing_in : {A : Type 0} {m : Macro} {ms : Table} → m ∷ ms ≡ [] → A
nothing_in e = let z : ◌≡◌ {A = ℕ} 0 1 = cc in absurd (omega arith)

-- one macro before others
most_more : (f : Macro → ℕ) (m : Macro) (ms : Table) (k n : ℕ) → Larger (f m) k n → IsMost f ms k → IsMost f (m ∷ ms) n
unfolding OneOf
most_more f m ms k n (first h) i =
    record {
      no_more = λ x o. elim o [ inl e ↦ rw e (omega arith) | inr o ↦ let l = i.no_more x o in omega arith ];
      reached = λ e. (m, inl refl, refl);
      without = λ e. nothing_in e;
    }
most_more f m [] k n (second h) i =
    record {
      no_more = λ x o. elim o [ inl e ↦ rw e h | inr o ↦ absurd o ];
      reached = λ e. (m, inl refl, omega (arith, i.without refl));
      without = λ e. nothing_in e;
    }
most_more f m (p ∷ ms) k n (second h) i =
    record {
      no_more = λ x o. elim o [ inl e ↦ rw e h | inr o ↦ i.no_more x o ];
      reached = λ e. let r = i.reached (λ z. nothing_in z) in (r.0, inr r.1, r.2);
      without = λ e. nothing_in e;
    }

pub most_is : (f : Macro → ℕ) (ms : Table) → IsMost f ms (most f ms)
unfolding OneOf most
most_is f [] = record { no_more = λ x o. absurd o; reached = λ e. absurd (e refl); without = λ e. refl }
most_is f (m ∷ ms) = most_more f m ms (most f ms) (larger (f m) (most f ms)) (larger_is (f m) (most f ms)) (most_is f ms)

-- there is one
pub one_most : (f : Macro → ℕ) (ms : Table) (k n : ℕ) → IsMost f ms k → IsMost f ms n → k ≡ n
one_most f [] k n i j = i.without refl ∙ sym (j.without refl)
one_most f (m ∷ ms) k n i j =
    let r = i.reached (λ z. nothing_in z) in
    let q = j.reached (λ z. nothing_in z) in
    let a = j.no_more r.0 r.1 in
    let b = i.no_more q.0 q.1 in
    omega (arith, r.2, q.2)

-- a bound on each is one on the most
pub most_within : (f : Macro → ℕ) (ms : Table) (n : ℕ) → ((m : Macro) → OneOf m ms → f m ≤ n) → most f ms ≤ n
unfolding OneOf most
most_within f [] n h = omega arith
most_within f (m ∷ ms) n h = by (larger (f m) (most f ms)) (larger_is (f m) (most f ms)) (most_within f ms n (λ x o. h x (inr o)))
  where
    by : (k : ℕ) → Larger (f m) (most f ms) k → most f ms ≤ n → k ≤ n
    by k (first l) r = h m (inl refl)
    by k (second l) r = r

-- The marks as a set of pairs: `set_mark` adds one, and `clear` takes out those of the first bytes.
-- Assumes nothing.
use Prim.Native.Nat.{ℕ, ◌+◌, ◌-◌, ◌/◌, ◌%◌, ◌^◌, ◌≤◌, ◌<◌}
use mathlib.Core.Path.{◌≡◌, refl, sym, ap, ◌∙◌}
use mathlib.Core.Bool.{Bool, true, false}
use mathlib.Core.Logic.{◌⊎◌, inl, inr}
use mathlib.Core.List.{List}
use native.Mathlib.Omega.{arith}
use native.Mathlib.Decide.{ℕ_discrete}
use borrow.Author.Tests.{eqb-true, eqb-false}
use lib.Dec.{eqb}
use lib.ListN.{get_or, set}
use lib.Seq.{get_or-set_same, get_or-set_other, get_or-drop}
use Rattle.pass_marks.specs.Marks.{byte_of, mark, ByteThere, marked_if, marked, cleared}
use Rattle.pass_marks.specs.Pairs.{IsPair, InSet, MarkGains, ClearLoses}
use Rattle.pass_marks.proofs.MarkLaws.{below8, Clear, others, by_marked, mark_only, mark_zero, SameMark, cleared_zero, cleared_rest}

-- a bit that is clear is set by adding it
gains_bit : (s : ℕ) → s < 8 → (x : ℕ) → Clear x s → ((x + 2 ^ s) / 2 ^ s) % 2 ≡ 1
gains_bit =
    below8 (λ s. (x : ℕ) → Clear x s → ((x + 2 ^ s) / 2 ^ s) % 2 ≡ 1) (λ x f. omega arith) (λ x f. omega arith) (λ x f. omega arith) (λ x f. omega arith) (λ x f. omega arith) (λ x f. omega arith)
    (λ x f. omega arith) (λ x f. omega arith)

-- different pairs have different bits
one_bit : {i j at q : ℕ} → IsPair i j → IsPair at q → SameMark i j at q → (i ≡ at) × (j ≡ q)
one_bit p r s = let a = p.item in let b = p.place in let c = r.item in let d = r.place in let e = s.0 in let f = s.1 in (omega arith, omega arith)

module _ (marks : List ℕ) (at q : ℕ) (there : ByteThere marks at q) where
  abbrev old : ℕ
  old = get_or marks (byte_of at q) 0

  abbrev new : ℕ
  new = old + 2 ^ (q % 8)

  abbrev after : List ℕ
  after = set marks (byte_of at q) new

  set_itself : (mark marks at q ≡ 1 → ⊥) → InSet after at q
  unfolding mark
  set_itself f = ap (λ (x : ℕ). (x / 2 ^ (q % 8)) % 2) (get_or-set_same marks (byte_of at q) new 0 there) ∙ gains_bit (q % 8) (omega arith) old f

  set_kept : (mark marks at q ≡ 1 → ⊥) → (i j : ℕ) → InSet marks i j → InSet after i j
  unfolding mark
  set_kept f i j e = go (ℕ_discrete (byte_of i j) (byte_of at q)) (ℕ_discrete (j % 8) (q % 8))
    where
      go : Dec (byte_of i j ≡ byte_of at q) → Dec (j % 8 ≡ q % 8) → (get_or after (byte_of i j) 0 / 2 ^ (j % 8)) % 2 ≡ 1
      go (yes h) (yes g) = absurd (f (ap (λ (k : ℕ). (get_or marks k 0 / 2 ^ (q % 8)) % 2) (sym h) ∙ ap (λ (s : ℕ). (get_or marks (byte_of i j) 0 / 2 ^ s) % 2) (sym g) ∙ e))
      go (yes h) (no g) =
          ap (λ (k : ℕ). (get_or after k 0 / 2 ^ (j % 8)) % 2) h
          ∙ ap (λ (x : ℕ). (x / 2 ^ (j % 8)) % 2) (get_or-set_same marks (byte_of at q) new 0 there)
          ∙ others old (q % 8) (j % 8) (omega arith) (omega arith) f g
          ∙ ap (λ (k : ℕ). (get_or marks k 0 / 2 ^ (j % 8)) % 2) (sym h)
          ∙ e
      go (no h) d = ap (λ (x : ℕ). (x / 2 ^ (j % 8)) % 2) (get_or-set_other marks (byte_of at q) (byte_of i j) new 0 h) ∙ e

  itself : InSet (marked marks at q) at q
  unfolding marked
  itself = by (eqb (mark marks at q) 1) refl
    where
      by : (b : Bool) → eqb (mark marks at q) 1 ≡ b → InSet (marked_if b marks at q) at q
      by true e = eqb-true _ _ e
      by false e = set_itself (eqb-false _ _ e)

  kept : (i j : ℕ) → InSet marks i j → InSet (marked marks at q) i j
  kept i j e = by_marked (λ l. InSet l i j) marks at q e (λ f. set_kept f i j e)

pub mark_gains : MarkGains
mark_gains marks at q p there =
    record {
      itself = itself marks at q there;
      kept = kept marks at q there;
      only = λ i j r e. go i j r (mark_only marks at q i j e);
    }
  where
    go : (i j : ℕ) → IsPair i j → InSet marks i j ⊎ SameMark i j at q → InSet marks i j ⊎ ((i ≡ at) × (j ≡ q))
    go i j r (inl e) = inl e
    go i j r (inr s) = inr (one_bit r p s)

-- a byte behind the cleared ones
behind : (marks : List ℕ) (n k : ℕ) → n ≤ k → get_or (cleared marks n) k 0 ≡ get_or marks k 0
behind marks n k h =
    let e : n + (k - n) ≡ k = omega arith in
    ap (λ (x : ℕ). get_or (cleared marks n) x 0) (sym e)
    ∙ sym (get_or-drop n (cleared marks n) (k - n) 0)
    ∙ ap (λ (l : List ℕ). get_or l (k - n) 0) (cleared_rest marks n)
    ∙ get_or-drop n marks (k - n) 0
    ∙ ap (λ (x : ℕ). get_or marks x 0) e

pub clear_loses : ClearLoses
unfolding mark
clear_loses marks n l =
    record {
      gone = λ i j h e. mark_zero (cleared marks n) i j (cleared_zero marks n (byte_of i j) h) e;
      kept = λ i j h. ap (λ (x : ℕ). (x / 2 ^ (j % 8)) % 2) (behind marks n (byte_of i j) h);
    }

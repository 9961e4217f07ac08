-- Sets of bytes, and the number that a test is. Assumes nothing.
use Prim.Native.Nat.{ℕ, ◌≤◌}
use mathlib.Core.Path.{◌≡◌, refl, sym, ap, ◌∙◌}
use mathlib.Core.Bool.{Bool, true, false, ◌&&◌, ◌||◌}
use mathlib.Core.List.{List, [], ◌∷◌, ◌++◌}
use mathlib.Core.Logic.{◌⊎◌, inl, inr, ⊎_elim}
use native.Mathlib.Omega.{arith}
use native.Mathlib.Decide.{ℕ_discrete}
use borrow.Author.Tests.{ne_eqb}
use lib.Dec.{eqb}
use types.Run.{OneOf}
use mir.Val.{bool_byte}
use Rattle.macros.specs.Macro.{among}
use Rattle.form_table.specs.Walk.{bit}

abbrev pub each : (ℕ → Bool) → List ℕ → Bool
each f [] = true
each f (k ∷ ks) = f k && each f ks

pub and_left : (a b : Bool) → a && b ≡ true → a ≡ true
and_left true b e = refl
and_left false b e = e

pub and_right : (a b : Bool) → a && b ≡ true → b ≡ true
and_right true b e = e
and_right false b e = cc

pub or_false : (a b : Bool) → a ≡ false → b ≡ false → a || b ≡ false
or_false true b p q = p
or_false false b p q = q

pub or_assoc : (a b c : Bool) → (a || b) || c ≡ a || (b || c)
or_assoc true b c = refl
or_assoc false b c = refl

pub or_none : (a : Bool) → a || false ≡ a
or_none true = refl
or_none false = refl

-- a byte is one of the keys of a match's arm, and all of these pass
pub one_of : (f : ℕ → Bool) (ks : List ℕ) (x : ℕ) → each f ks ≡ true → OneOf ks x → f x ≡ true
one_of f [] x e o = absurd o
one_of f (k ∷ []) x e o = rw o (and_left (f k) true e)
one_of f (k ∷ k' ∷ ks) x e o =
    ⊎_elim (λ (q : x ≡ k). ap f q ∙ and_left (f k) (each f (k' ∷ ks)) e) (λ q. one_of f (k' ∷ ks) x (and_right (f k) (each f (k' ∷ ks)) e) q) o

-- a byte is none of the keys
pub none_key : (ks : List ℕ) (x : ℕ) → (OneOf ks x → ⊥) → among ks x ≡ false
unfolding among
none_key [] x n = refl
none_key (k ∷ []) x n = rw (ne_eqb x k n)
none_key (k ∷ k' ∷ ks) x n = or_false (eqb x k) (among (k' ∷ ks) x) (ne_eqb x k (λ e. n (inl e))) (none_key (k' ∷ ks) x (λ o. n (inr o)))

either : (k : ℕ) (l : List ℕ) (x : ℕ) → Dec (x ≡ k) → among (k ∷ l) x ≡ true → (x ≡ k) ⊎ (among l x ≡ true)
unfolding among
either k l x (yes q) m = inl q
either k l x (no q) m = inr (rw (ne_eqb x k q) at m)

-- a byte is in a set, and all of its bytes pass
among_passes : (f : ℕ → Bool) (l : List ℕ) (x : ℕ) → each f l ≡ true → among l x ≡ true → f x ≡ true
unfolding among
among_passes f [] x e m = cc
among_passes f (k ∷ l) x e m = ⊎_elim (λ (q : x ≡ k). ap f q ∙ and_left (f k) (each f l) e) (λ q. among_passes f l x (and_right (f k) (each f l) e) q) (either k l x (ℕ_discrete x k) m)

same : (a b : Bool) → (a ≡ true → b ≡ true) → (b ≡ true → a ≡ true) → a ≡ b
same true b f g = sym (f refl)
same false true f g = g refl
same false false f g = refl

-- two lists of the same bytes
pub same_set : (l ks : List ℕ) (x : ℕ) → each (among ks) l ≡ true → each (among l) ks ≡ true → among l x ≡ among ks x
same_set l ks x e g = same (among l x) (among ks x) (λ p. among_passes (among ks) l x e p) (λ p. among_passes (among l) ks x g p)

pub among_append : (l ks : List ℕ) (x : ℕ) → among (l ++ ks) x ≡ among l x || among ks x
unfolding among
among_append [] ks x = refl
among_append (k ∷ l) ks x = ap (λ (t : Bool). eqb x k || t) (among_append l ks x) ∙ sym (or_assoc (eqb x k) (among l x) (among ks x))

pub byte_bit : (t : Bool) → bool_byte t ≡ bit t
unfolding bit
byte_bit true = refl
byte_bit false = refl

pub bit_small : (r : ℕ) (t : Bool) → r ≡ bit t → r ≤ 1
unfolding bit
bit_small r true e = omega arith
bit_small r false e = omega arith

-- A walk, step by step.
use mathlib.Core.Path.{◌≡◌, refl, sym, ap, ◌∙◌, subst}
use mathlib.Core.Bool.{Bool, true, false}
use mathlib.Core.List.{List, [], ◌∷◌, ◌++◌, append_assoc, append-nil}
use mathlib.Core.Option.{Option, none, some}
use Prim.Native.Nat.{ℕ, suc, ◌+◌, ◌≤◌, ◌<◌}
use native.Mathlib.Omega.{arith}
use lib.ListN.{length, get_or, drop, drop_of_length-le}
use lib.Seq.{drop-cons}
use Rattle.macros.specs.Write.{byte}
use Rattle.macros.specs.Formed.{Octets}
use Rattle.form_table.specs.Walk.{given, bit, walk}
use Rattle.form_table.proofs.Basics.{not_some}

pub byte_length : (x : Bool) (b : ℕ) → length (byte x b) ≡ 1 + bit x
unfolding byte bit
byte_length true b = refl
byte_length false b = refl

pub some_same : {A : Type 0} {a b : A} → some a ≡ some b → a ≡ b
some_same e = cc

-- an answer was given, so its test holds
pub granted : {A P : Type 0} (x : Bool) {a b : A} → given x a ≡ some b → (x ≡ true → a ≡ b → P) → P
unfolding given
granted true e f = f refl (some_same e)
granted false e f = not_some e

pub granting : {A : Type 0} (x : Bool) (a : A) → x ≡ true → given x a ≡ some a
unfolding given
granting x a e = rw e

module _ {S : Type 0} (step : S → ℕ → ℕ → Option S) where
  pub walk_on : (s s' : S) (c o : ℕ) (l : List ℕ) → step s c o ≡ some s' → walk step s (c ∷ o ∷ l) ≡ walk step s' l
  unfolding walk
  walk_on s s' c o l e = rw (e, walk)

  pub walk_off : (s : S) (c o : ℕ) (l : List ℕ) → step s c o ≡ none → walk step s (c ∷ o ∷ l) ≡ none
  unfolding walk
  walk_off s c o l e = rw (e, walk)

  -- what each step keeps, a walk keeps; d is what has been walked over
  pub walk_kept : (Inv : S → List ℕ → Type 0)
      → ((s s' : S) (d : List ℕ) (c o : ℕ) → Inv s d → c ≤ 255 → o ≤ 255 → step s c o ≡ some s' → Inv s' (d ++ (c ∷ o ∷ [])))
      → (l d : List ℕ) (s s' : S) → Inv s d → Octets l → walk step s l ≡ some s' → Inv s' (d ++ l)
  unfolding walk
  walk_kept Inv f [] d s s' i h e = rw append-nil (subst (λ (x : S). Inv x d) (some_same e) i)
  walk_kept Inv f (c ∷ []) d s s' i h e = not_some e
  walk_kept Inv f (c ∷ o ∷ l) d s s' i h e = by (step s c o) refl (λ s₁ j g. walk_kept Inv f l (d ++ (c ∷ o ∷ [])) s₁ s' j h.1.1 g)
    where
      by : (x : Option S) → step s c o ≡ x
          → ((s₁ : S) → Inv s₁ (d ++ (c ∷ o ∷ [])) → walk step s₁ l ≡ some s' → Inv s' ((d ++ (c ∷ o ∷ [])) ++ l)) → Inv s' (d ++ (c ∷ o ∷ l))
      by none q g = not_some (sym (walk_off s c o l q) ∙ e)
      by (some s₁) q g = rw append_assoc at (g s₁ (f s s₁ d c o i h.0 h.1.0 q) (sym (walk_on s s₁ c o l q) ∙ e))

  -- by places, the walk being at place p of the bytes l
  module _ (s : S) (l : List ℕ) (p : ℕ) where
    at_place : suc p < length l → drop p l ≡ get_or l p 0 ∷ get_or l (suc p) 0 ∷ drop (suc (suc p)) l
    at_place h = drop-cons l p 0 (omega arith) ∙ ap (λ (r : List ℕ). get_or l p 0 ∷ r) (drop-cons l (suc p) 0 h)

    pub walk_goes : (s' : S) → suc p < length l → step s (get_or l p 0) (get_or l (suc p) 0) ≡ some s' → walk step s (drop p l) ≡ walk step s' (drop (suc (suc p)) l)
    walk_goes s' h e = rw (at_place h) (walk_on s s' (get_or l p 0) (get_or l (suc p) 0) (drop (suc (suc p)) l) e)

    pub walk_stops : suc p < length l → step s (get_or l p 0) (get_or l (suc p) 0) ≡ none → walk step s (drop p l) ≡ none
    walk_stops h e = rw (at_place h) (walk_off s (get_or l p 0) (get_or l (suc p) 0) (drop (suc (suc p)) l) e)

    pub walk_odd : suc p ≡ length l → walk step s (drop p l) ≡ none
    unfolding walk
    walk_odd h = rw (drop-cons l p 0 (omega arith), drop_of_length-le l {i = suc p} (omega arith))

    pub walk_ends : length l ≤ p → walk step s (drop p l) ≡ some s
    unfolding walk
    walk_ends h = rw (drop_of_length-le l {i = p} h)

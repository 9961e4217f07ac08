-- Items by twos: the next one, one more, and from one fact to another.
use Prim.Native.Nat.{ℕ, suc, ◌+◌, ◌≤◌, ◌<◌}
use mathlib.Core.Path.{◌≡◌, ap, sym, ◌∙◌, subst}
use mathlib.Core.List.{List, [], ◌∷◌}
use native.Mathlib.Numerals.{add-one, add-two}
use native.Mathlib.Omega.{arith}
use lib.ListN.{length, get_or, drop, length-drop, drop_of_length-le}
use lib.Seq.{drop-cons}
use Rattle.pass_lack.specs.Twos.{Pairs}

pub pairs_map : (P Q : ℕ → ℕ → Type 0) → ((c i : ℕ) → P c i → Q c i) → (l : List ℕ) → Pairs P l → Pairs Q l
pairs_map P Q f [] h = tt
pairs_map P Q f (c ∷ []) h = h
pairs_map P Q f (c ∷ i ∷ l) h = (f c i h.0, pairs_map P Q f l h.1)

pub pairs_both : (P Q R : ℕ → ℕ → Type 0) → ((c i : ℕ) → P c i → Q c i → R c i) → (l : List ℕ) → Pairs P l → Pairs Q l → Pairs R l
pairs_both P Q R f [] h g = tt
pairs_both P Q R f (c ∷ []) h g = h
pairs_both P Q R f (c ∷ i ∷ l) h g = (f c i h.0 g.0, pairs_both P Q R f l h.1 g.1)

-- the item at a place
pub cut : (l : List ℕ) (at : ℕ) → at + 1 < length l → drop at l ≡ get_or l at 0 ∷ get_or l (at + 1) 0 ∷ drop (at + 2) l
cut l at h = rw (add-one, add-two) (drop-cons l at 0 (omega arith) ∙ ap (λ (t : List ℕ). get_or l at 0 ∷ t) (drop-cons l (suc at) 0 (omega arith)))

module _ (P : ℕ → ℕ → Type 0) where
  two : (l : List ℕ) → Pairs P l → 0 < length l → 2 ≤ length l
  two [] h k = absurd (omega arith)
  two (c ∷ []) h k = absurd h
  two (c ∷ i ∷ l) h k = omega arith

  module _ (l : List ℕ) (at : ℕ) (less : at < length l) where
    pub pair_whole : Pairs P (drop at l) → at + 1 < length l
    pair_whole h = let d = length-drop at l in let t : 2 ≤ length (drop at l) = two (drop at l) h (omega arith) in omega arith

    opened : Pairs P (drop at l) → P (get_or l at 0) (get_or l (at + 1) 0) × Pairs P (drop (at + 2) l)
    opened h = subst (Pairs P) (cut l at (pair_whole h)) h

    pub pair_here : Pairs P (drop at l) → P (get_or l at 0) (get_or l (at + 1) 0)
    pair_here h = (opened h).0

    pub pair_next : Pairs P (drop at l) → Pairs P (drop (at + 2) l)
    pair_next h = (opened h).1

    -- one more in front
    pub pair_more : at + 1 < length l → P (get_or l at 0) (get_or l (at + 1) 0) → Pairs P (drop (at + 2) l) → Pairs P (drop at l)
    pair_more k h g = subst (Pairs P) (sym (cut l at k)) (h, g)

  pub pairs_end : (l : List ℕ) (at : ℕ) → length l ≤ at → Pairs P (drop at l)
  pairs_end l at h = subst (Pairs P) (sym (drop_of_length-le l {i = at} h)) tt

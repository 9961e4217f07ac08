-- Lists whose every element holds a fact: parts, digits, and the texts of tags.
use Prim.Native.Nat.{ℕ, zero, suc, ◌+◌, ◌≤◌, ◌/◌, ◌%◌}
use mathlib.Core.Path.{◌≡◌}
use mathlib.Core.List.{List, [], ◌∷◌, ◌++◌, reverse, reverse_aux}
use native.Mathlib.Omega.{arith}
use borrow.Author.Tests.{ltb-true}
use lib.Dec.{ltb}
use lib.ListN.{length, get_or, take, drop, set, replicate}
use Rattle.macros.specs.Macro.{Piece}
use Rattle.macros.specs.Macro.Piece.{element, start, end, left, right}
use Rattle.macros.specs.Formed.{Bytes, Octets}
use Rattle.macros.specs.Write.{digits, digits_by}
use Rattle.lines.specs.State.{AllOf}
use Rattle.lines.specs.Matching.{closing, tag_text}
use Rattle.lines.specs.Dividing.{divided_text}
use Rattle.lines.specs.Replacing.{onto}
use Rattle.lines.proofs.KeepTests.{by_pick}

-- ANY FACT

module _ {A : Type 0} (P : A → Type 0) where
  pub all_get : (l : List A) (i : ℕ) (d : A) → AllOf P l → P d → P (get_or l i d)
  all_get [] i d h g = g
  all_get (x ∷ l) zero d h g = h.0
  all_get (x ∷ l) (suc i) d h g = all_get l i d h.1 g

  pub all_set : (l : List A) (i : ℕ) (x : A) → AllOf P l → P x → AllOf P (set l i x)
  all_set [] i x h g = tt
  all_set (y ∷ l) zero x h g = (g, h.1)
  all_set (y ∷ l) (suc i) x h g = (h.0, all_set l i x h.1 g)

  pub all_replicate : (n : ℕ) (x : A) → P x → AllOf P (replicate n x)
  all_replicate zero x g = tt
  all_replicate (suc n) x g = (g, all_replicate n x g)

  all_onto : (l r : List A) → AllOf P l → AllOf P r → AllOf P (reverse_aux l r)
  all_onto [] r h g = g
  all_onto (x ∷ l) r h g = all_onto l (x ∷ r) h.1 (h.0, g)

  pub all_reverse : (l : List A) → AllOf P l → AllOf P (reverse l)
  all_reverse l h = all_onto l [] h tt

-- BYTES

pub bytes_octets : (t : List ℕ) → Bytes t → Octets t
bytes_octets [] h = tt
bytes_octets (b ∷ t) h = (h.0.1, bytes_octets t h.1)

pub bytes_take : (n : ℕ) (t : List ℕ) → Bytes t → Bytes (take n t)
bytes_take zero t h = tt
bytes_take (suc n) [] h = tt
bytes_take (suc n) (b ∷ t) h = (h.0, bytes_take n t h.1)

pub bytes_drop : (n : ℕ) (t : List ℕ) → Bytes t → Bytes (drop n t)
bytes_drop zero t h = h
bytes_drop (suc n) [] h = tt
bytes_drop (suc n) (b ∷ t) h = bytes_drop n t h.1

pub bytes_append : (s t : List ℕ) → Bytes s → Bytes t → Bytes (s ++ t)
bytes_append [] t h g = g
bytes_append (b ∷ s) t h g = (h.0, bytes_append s t h.1 g)

pub bytes_onto : (s t : List ℕ) → Bytes s → Bytes t → Bytes (onto s t)
unfolding onto
bytes_onto [] t h g = g
bytes_onto (b ∷ s) t h g = bytes_onto s (b ∷ t) h.1 (h.0, g)

pub length_onto : (s t : List ℕ) → length (onto s t) ≡ length s + length t
unfolding onto
length_onto [] t = omega arith
length_onto (b ∷ s) t = let h : length (onto s (b ∷ t)) ≡ length s + suc (length t) = length_onto s (b ∷ t) in omega arith

-- DIGITS

digits_by_lem : (k n : ℕ) → n ≤ k → Bytes (digits_by k n)
unfolding digits_by
digits_by_lem zero n h = (omega arith, tt)
digits_by_lem (suc k) n h =
    by_pick Bytes (ltb n 10) _ _ (λ e. (omega (arith, ltb-true), tt))
    (λ e. bytes_append (digits_by k (n / 10)) ((48 + n % 10) ∷ []) (digits_by_lem k (n / 10) (omega arith)) (omega arith, tt))

pub bytes_digits : (n : ℕ) → Bytes (digits n)
unfolding digits
bytes_digits n = digits_by_lem n n (omega arith)

pub bytes_divided : (v n : ℕ) → Bytes (divided_text v n)
unfolding divided_text
bytes_divided v n = bytes_append (digits (v / n)) _ (bytes_digits (v / n)) (omega arith, bytes_digits (v % n))

-- TAGS

-- a tag's text is a part of the line
pub bytes_tag : (t : List ℕ) (es : List Piece) (n : ℕ) (qs : List ℕ) → Bytes t → Bytes (tag_text t n es qs)
unfolding tag_text
bytes_tag t [] n qs h = tt
bytes_tag t (e ∷ es) n [] h = tt
bytes_tag t (element u c ∷ es) n (q ∷ qs) h = bytes_tag t es n qs h
bytes_tag t (start ∷ es) n (q ∷ qs) h = bytes_tag t es n qs h
bytes_tag t (end ∷ es) n (q ∷ qs) h = bytes_tag t es n qs h
bytes_tag t (right ∷ es) n (q ∷ qs) h = bytes_tag t es n qs h
bytes_tag t (left ∷ es) zero (q ∷ qs) h = bytes_drop q (take (closing zero es qs) t) (bytes_take (closing zero es qs) t h)
bytes_tag t (left ∷ es) (suc n) (q ∷ qs) h = bytes_tag t es n qs h
